pub mod ChipImage
