-- What the commands over images print.
pub mod GenerationText
