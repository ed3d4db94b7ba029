pub use Rattle.claim_rule.specs.Plays
pub use Rattle.claim_rule.specs.Tokens
pub use Rattle.node_claims.specs.Answers
