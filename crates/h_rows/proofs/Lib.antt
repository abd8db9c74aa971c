pub mod HRows
