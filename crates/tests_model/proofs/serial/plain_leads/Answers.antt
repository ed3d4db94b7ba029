use Rattle.std.proofs.Common.{◌<◌, ℕ, sym, subst}
use Rattle.std.specs.List.{All}
use Rattle.tests_model.proofs.serial.plain_leads.Goals as goal

pub replay_plain-requires-clause-there : goal.replay_plain-requires-clause-there
replay_plain-requires-clause-there c _ = subst (λ (n : ℕ). All (λ e. e.bot < n) c.args.entries.now) (sym c.in_ok-row.ensures) c.requires.there
