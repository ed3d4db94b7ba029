pub use Rattle.claim_rule.specs.Settling
pub use Rattle.claim_rule.specs.Tokens
