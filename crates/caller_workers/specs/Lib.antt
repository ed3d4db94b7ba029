pub mod Turns
pub mod WorkerStates
pub mod Laws
pub use Rattle.claim_core.specs.Turns as ClaimCoreTurns
pub use Rattle.claim_rule.specs.Tokens
pub use Rattle.node_claims.specs.Answers
