pub use Rattle.gpu_word.specs.Results
pub mod Codes
pub mod Views
pub mod Rule
pub mod Seen
