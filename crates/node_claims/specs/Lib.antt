pub mod Claims
pub mod Answers
pub mod Laws
pub use Rattle.claim_core.specs.Limits
pub use Rattle.claim_rule.specs.Plays
pub use Rattle.claim_rule.specs.Tokens
