use Rattle.std.proofs.Common.{◌<◌, ℕ, sym, subst}
use Rattle.std.specs.List.{All}
use Rattle.tests_model.proofs.serial.leads.Goals as goal

pub replay-requires-clause-there : goal.replay-requires-clause-there
replay-requires-clause-there c _ = subst (λ (n : ℕ). All (λ e. e.bot < n) c.args.entries.now) (sym c.in_ok-row.ensures) c.requires.there
