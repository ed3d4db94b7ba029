use Rattle.std.proofs.Common.{refl, ◌≡◌, ℕ, ap, ◌∙◌, subst, arith, length}
use Rattle.std.specs.Prelude.{slice_get}
use Rattle.claim_core.specs.declared.state.Phase.TheVariants as phase
use Rattle.claim_core.specs.Machine.{next, mark_of_look, busy_mark}
use Rattle.amoebot_state.specs.declared.verdict.Verdict.{Verdict}
use Rattle.amoebot_state.specs.Zones.{Shown}
use Rattle.claim_core.specs.Cores.{Running, stepped, HasPhase, IsUnmarked, looks_at, setup_of}
use Rattle.claim_core.proofs.MachineLemmas.{there_in, has_phase, refusing_unmarked, looking_unmarked, refusing_known, refusing_next, looking_next, ended_next, its_seat}
use Rattle.claim_core.proofs.machine.Core.act.Goals as goal

ended : {D : Type 0} (verdict : D → Shown → Verdict) (c : ℕ) (r now : Running D) → r ≡ now → r.state ≡ next (setup_of verdict r) c r.state → now ≡ stepped verdict c now
ended {D} verdict c r now view same = subst (λ z. z ≡ stepped verdict c z) view (ap (λ s. record r { state = s }) same)

pub index-requires : goal.index-requires
index-requires g c =
    omega (arith, there_in c.self.invariant c.self.view_is refl c.requires, c.from.ensures, c.self.inside.seats.ok.0)

pub claim-requires-after_bounds : goal.claim-requires-after_bounds
claim-requires-after_bounds g c =
    let seat = its_seat c.args.caller c.from.result c.index.result.now c.from.ensures (there_in c.self.invariant c.self.view_is refl c.requires) c.index.ensures in
    λ ks below. subst (λ r. HasPhase r.state.callers c.args.caller phase.Claim) c.self.view_is (has_phase c.self.invariant seat phase.Claim c.in-Claim.is)

pub busy-mark-requires-clause-known : goal.busy-mark-requires-clause-known
busy-mark-requires-clause-known g c =
    let seat = its_seat c.args.caller c.from.result c.index.result.now c.from.ensures (there_in c.self.invariant c.self.view_is refl c.requires) c.index.ensures in
    (refusing_known c.self.invariant seat c.in-Refusing.name c.in-Refusing.tag c.in-Refusing.is).0

pub busy-mark-requires-clause-found : goal.busy-mark-requires-clause-found
busy-mark-requires-clause-found g c =
    let seat = its_seat c.args.caller c.from.result c.index.result.now c.from.ensures (there_in c.self.invariant c.self.view_is refl c.requires) c.index.ensures in
    (refusing_known c.self.invariant seat c.in-Refusing.name c.in-Refusing.tag c.in-Refusing.is).1

pub settle-requires-clause-unmarked : goal.settle-requires-clause-unmarked
settle-requires-clause-unmarked g c =
    let seat = its_seat c.args.caller c.from.result c.index.result.now c.from.ensures (there_in c.self.invariant c.self.view_is refl c.requires) c.index.ensures in
    λ ks below. subst (λ r. IsUnmarked r.lists.turns r.state.callers c.args.caller) c.self.view_is (refusing_unmarked c.self.invariant seat c.in-Refusing.name c.in-Refusing.tag c.in-Refusing.is)

pub settle-requires-clause-next : goal.settle-requires-clause-next
settle-requires-clause-next g c =
    let seat = its_seat c.args.caller c.from.result c.index.result.now c.from.ensures (there_in c.self.invariant c.self.view_is refl c.requires) c.index.ensures in
    λ ks below. subst (λ r. next (setup_of g.D.Decider.verdict r) c.args.caller r.state ≡ looks_at (setup_of g.D.Decider.verdict r) c.args.caller r.state (slice_get r.state.callers c.args.caller) c.busy-mark.result) c.self.view_is
    (refusing_next c.self.invariant seat c.in-Refusing.name c.in-Refusing.tag c.busy-mark.result c.in-Refusing.is (c.busy-mark.ensures ∙ ap (λ es. busy_mark c.in-Refusing.name c.in-Refusing.tag (length es)) c.entries.ensures))

pub settle-requires-in-Looking-clause-unmarked : goal.settle-requires-in-Looking-clause-unmarked
settle-requires-in-Looking-clause-unmarked g c =
    let seat = its_seat c.args.caller c.from.result c.index.result.now c.from.ensures (there_in c.self.invariant c.self.view_is refl c.requires) c.index.ensures in
    λ ks below. subst (λ r. IsUnmarked r.lists.turns r.state.callers c.args.caller) c.self.view_is (looking_unmarked c.self.invariant seat c.in-Looking.look c.in-Looking.is)

pub settle-requires-in-Looking-clause-next : goal.settle-requires-in-Looking-clause-next
settle-requires-in-Looking-clause-next g c =
    let seat = its_seat c.args.caller c.from.result c.index.result.now c.from.ensures (there_in c.self.invariant c.self.view_is refl c.requires) c.index.ensures in
    λ ks below. subst (λ r. next (setup_of g.D.Decider.verdict r) c.args.caller r.state ≡ looks_at (setup_of g.D.Decider.verdict r) c.args.caller r.state (slice_get r.state.callers c.args.caller) c.mark_of-mark.result) c.self.view_is
    (looking_next c.self.invariant seat c.in-Looking.look c.mark_of-mark.result c.in-Looking.is (c.mark_of-mark.ensures ∙ ap (λ es. mark_of_look c.in-Looking.look (length es)) c.entries.ensures))

pub take-requires-after_bounds : goal.take-requires-after_bounds
take-requires-after_bounds g c =
    let seat = its_seat c.args.caller c.from.result c.index.result.now c.from.ensures (there_in c.self.invariant c.self.view_is refl c.requires) c.index.ensures in
    λ ks below. (c.in-Taking.field-0, subst (λ r. HasPhase r.state.callers c.args.caller (phase.Taking c.in-Taking.field-0)) c.self.view_is (has_phase c.self.invariant seat (phase.Taking c.in-Taking.field-0) c.in-Taking.is))

pub commit-requires-after_bounds : goal.commit-requires-after_bounds
commit-requires-after_bounds g c =
    let seat = its_seat c.args.caller c.from.result c.index.result.now c.from.ensures (there_in c.self.invariant c.self.view_is refl c.requires) c.index.ensures in
    λ ks below. (c.in-Committing.field-0, subst (λ r. HasPhase r.state.callers c.args.caller (phase.Committing c.in-Committing.field-0)) c.self.view_is (has_phase c.self.invariant seat (phase.Committing c.in-Committing.field-0) c.in-Committing.is))

pub release-requires-after_bounds : goal.release-requires-after_bounds
release-requires-after_bounds g c =
    let seat = its_seat c.args.caller c.from.result c.index.result.now c.from.ensures (there_in c.self.invariant c.self.view_is refl c.requires) c.index.ensures in
    λ ks below. subst (λ r. HasPhase r.state.callers c.args.caller phase.Releasing) c.self.view_is (has_phase c.self.invariant seat phase.Releasing c.in-Releasing.is)

pub returns-in-Ended : goal.returns-in-Ended
returns-in-Ended g c =
    let seat = its_seat c.args.caller c.from.result c.index.result.now c.from.ensures (there_in c.self.invariant c.self.view_is refl c.requires) c.index.ensures in
    ended g.D.Decider.verdict c.args.caller _ c.args.self.now c.self.view_is (ended_next c.self.invariant seat c.in-Ended.is)
