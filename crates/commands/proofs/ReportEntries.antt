-- The entries of a run: their amoebots are there, and there are not more of them than turns.
use Rattle.std.proofs.Common.{ℕ, ◌<◌, List, [], ◌∷◌, length, subst}
use Rattle.std.specs.List.{All}
use Rattle.std.proofs.lemmas.List.Elements.{All-nil, All-cons}
use Rattle.amoebot_state.specs.declared.verdict.Entry.{Entry}
use Rattle.amoebot_state.specs.declared.verdict.Verdict.{Verdict}
use Rattle.amoebot_state.specs.Configs.{Config}
use Rattle.amoebot_state.specs.Zones.{Shown}
use Rattle.amoebot_state.specs.Steps.{Run}
use Rattle.amoebot_state.proofs.Occupants.{there_below}
use Rattle.claim_core.proofs.Orders.{order_is_few}
use Rattle.commands.specs.ReportLaws.{GoodIsFew}

bots_there : (f : Shown → Verdict) (old new : Config) (es : List Entry) → Run f old es new → All (λ (e : Entry). e.bot < length old.bots) es
bots_there f old new [] run = All-nil _
bots_there f old new (e ∷ es) run =
    let rest = bots_there f run.0 new es run.2 in
    All-cons (λ (x : Entry). x.bot < length old.bots) e es (there_below old e.bot run.1.there) (subst (λ (n : ℕ). All (λ (x : Entry). x.bot < n) es) run.1.patched.same.size rest)

pub good_is_few : GoodIsFew
good_is_few f w0 lists report good = record {
  bots = bots_there f w0 report.world report.journal.entries good.run;
  few = order_is_few lists report.journal.entries good.order;
}
