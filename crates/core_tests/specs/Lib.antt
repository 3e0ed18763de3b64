pub mod LitmusImages
