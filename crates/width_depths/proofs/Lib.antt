pub mod DepthLoop
