pub mod AsStated
