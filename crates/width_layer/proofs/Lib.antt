pub mod LayerLoop
