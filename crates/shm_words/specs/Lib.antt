pub use Rattle.gpu_plan.specs.Passes
pub use Rattle.gpu_plan.specs.MayHold
pub mod Views
pub mod Rule
pub mod Seen
pub mod Acts
