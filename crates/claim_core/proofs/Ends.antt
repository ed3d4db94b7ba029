-- The report of a state in which all callers have ended is a good one.
use Rattle.std.proofs.Common.{◌≡◌, ℕ, zero, suc, ◌≤◌, List, [], ◌∷◌, map, length, get_or, take, Option, Some, None, inl, inr, ap, sym, refl, subst, ◌∙◌, arith}
use Rattle.std.specs.Prelude.{slice_get, is_some, unwrap_or}
use Rattle.std.specs.List.{All, AllPairs}
use Rattle.std.proofs.lemmas.Bool.{false≢true}
use Rattle.std.proofs.lemmas.List.{ext_get_or, length-map}
use Rattle.std.proofs.lemmas.List.Elements.{All-map}
use Rattle.std.proofs.lemmas.Option.{same_Some, none-some, slice_get_within, slice_get-get_or}
use Rattle.amoebot_state.specs.declared.bot.Bot.{Bot}
use Rattle.amoebot_state.specs.declared.cell.CellName.TheVariants as name
use Rattle.amoebot_state.specs.declared.cell.Cell.{Cell}
use Rattle.amoebot_state.specs.declared.cell.Cell.TheVariants as cell
use Rattle.amoebot_state.specs.declared.verdict.Entry.{Entry}
use Rattle.amoebot_state.specs.declared.verdict.Verdict.{Verdict}
use Rattle.amoebot_state.specs.Pairs.{Pairs}
use Rattle.amoebot_state.specs.Configs.{Config, bot_at, blank}
use Rattle.amoebot_state.specs.Zones.{Shown}
use Rattle.amoebot_state.specs.Steps.{Step, Run}
use Rattle.amoebot_state.proofs.Patched.{same_config}
use Rattle.claim_core.specs.declared.marks.Mark.{Mark}
use Rattle.claim_core.specs.declared.marks.Mark.TheVariants as mark
use Rattle.claim_core.specs.declared.state.Phase.{Phase}
use Rattle.claim_core.specs.declared.state.Phase.TheVariants.{Claim, Refusing, Looking, Taking, Committing, Releasing, Ended}
use Rattle.claim_core.specs.declared.state.Caller.{Caller}
use Rattle.claim_core.specs.Good.{Order, TurnOk, AllTurns, AreMarks, SoFar, place_of, place_after}
use Rattle.claim_core.specs.Cells.{number, at, values_of}
use Rattle.claim_core.specs.Machine.{Setup, State, after}
use Rattle.claim_core.specs.Soundness.{IsTurn, HasFront, TurnOkSoFar, Sound, marks_so_far, marked, names}
use Rattle.claim_core.specs.Reached.{HaveEnded, HasValues}
use Rattle.claim_core.specs.Laws.{ReachedIsGood, StateHasOneReport, EntryIsDecided}
use Rattle.claim_core.proofs.Numbers.{value_of_body}
use Rattle.claim_core.proofs.Frames.{IsFramed, run_framed}
use Rattle.claim_core.proofs.Moved.{told_by}
use Rattle.claim_core.proofs.Sounds.{always}

-- configurations of one frame whose cells have the same values are one
same_bot : (o p : Option Bot) → is_some o ≡ is_some p → cell.Body (unwrap_or o blank) ≡ cell.Body (unwrap_or p blank) → o ≡ p
same_bot None None alike e = refl
same_bot None (Some b) alike e = absurd (false≢true alike)
same_bot (Some b) None alike e = absurd (false≢true (sym alike))
same_bot (Some b) (Some o) alike e = cc

same_bots : (c d : Config) → c.area ≡ d.area → length c.bots ≡ length d.bots → ((i : ℕ) → is_some (bot_at c i) ≡ is_some (bot_at d i)) → values_of c ≡ values_of d → c.bots ≡ d.bots
same_bots c d area size ids values = ext_get_or None c.bots d.bots size (λ i inside. same_bot (bot_at c i) (bot_at d i) (ids i) (same_Some _ _ (
    sym (value_of_body c i inside) ∙ ap (λ (vs : List Cell). at vs (number c.area (name.Body i))) values ∙ ap (λ a. at (values_of d) (number a (name.Body i))) area
    ∙ value_of_body d i (omega arith)
    )))

pub same_world : (g : Setup) (s : State) (world last : Config) → HasValues g s world → IsFramed g.world last → s.values ≡ values_of last → world ≡ last
same_world g s world last has framed values =
    let area : world.area ≡ last.area = ap (λ (c : Config). c.area) has.same.rest ∙ sym (ap (λ (c : Config). c.area) framed.same.rest) in
    same_config world last area (ap (λ (c : Config). c.walls) has.same.rest ∙ sym (ap (λ (c : Config). c.walls) framed.same.rest)) (ap (λ (c : Config). c.maxes) has.same.rest ∙ sym (ap (λ (c : Config). c.maxes) framed.same.rest))
    (same_bots world last area (has.same.size ∙ sym framed.same.size) (λ i. has.same.ids i ∙ sym (framed.same.ids i)) (has.values ∙ values))

pub state_has_one_report : StateHasOneReport
state_has_one_report g s one two first second =
    let area : one.world.area ≡ two.world.area = ap (λ (c : Config). c.area) first.world.same.rest ∙ sym (ap (λ (c : Config). c.area) second.world.same.rest) in
    let maxes : one.world.maxes ≡ two.world.maxes = ap (λ (c : Config). c.maxes) first.world.same.rest ∙ sym (ap (λ (c : Config). c.maxes) second.world.same.rest) in
    let bots = same_bots one.world two.world area (first.world.same.size ∙ sym second.world.same.size) (λ i. first.world.same.ids i ∙ sym (second.world.same.ids i)) (first.world.values ∙ sym second.world.values) in
    let walls : one.world.walls ≡ two.world.walls = ap (λ (c : Config). c.walls) first.world.same.rest ∙ sym (ap (λ (c : Config). c.walls) second.world.same.rest) in
    (same_config one.world two.world area walls maxes bots, first.first ∙ sym second.first, first.entries ∙ sym second.entries, first.marks ∙ sym second.marks)

-- a caller has at most as many marks as turns
at_most : (turns t : ℕ) (p : Phase) → IsTurn turns p t → marked p t ≤ turns
at_most turns t Claim is = omega (arith, is)
at_most turns t (Refusing n u) is = omega (arith, is)
at_most turns t (Looking l) is = omega (arith, is)
at_most turns t (Taking change) is = omega (arith, is)
at_most turns t (Committing change) is = omega (arith, is)
at_most turns t Releasing is = omega (arith, is)
at_most turns t Ended is = omega (arith, is)

each_marks : (s : State) (P : List Mark → Type 0) → ((c : ℕ) (k : Caller) → slice_get s.callers c ≡ Some k → P k.marks) → All P (map (λ (k : Caller). k.marks) s.callers)
each_marks s P each = All-map P (λ (k : Caller). k.marks) s.callers (λ i d inside. each i (get_or s.callers i d) (slice_get-get_or s.callers i d inside))

-- where nobody holds a cell, what each mark says is so
module _ (g : Setup) (s : State) (sound : Sound g s) (free : (c : ℕ) (k : Caller) → slice_get s.callers c ≡ Some k → k.held ≡ []) where
  -- the other turn has its mark
  settled : (c t : ℕ) (m : Mark) → TurnOkSoFar g s c t m → TurnOk g.verdict g.world g.lists s.journal (marks_so_far g s) c t m
  settled c t (mark.Done place) is = is
  settled c t (mark.Idle place) is = is
  settled c t (mark.Failed why place) is = is
  settled c t (mark.Busy n by_caller by_turn by_bot place) is = (
    is.0,
    record {
      listed = is.1.listed;
      other = is.1.other;
      turn = is.1.turn;
      bot = is.1.of;
      in_zone = elim is.1.holds [
        | inl holds ↦ absurd (let none : length (names holds.record_of.held) ≡ 0 = ap (λ (h : Pairs). length (names h)) (free by_caller holds.record_of holds.there) in let inside = holds.held.1 in omega arith)
        | inr held ↦ (held.told, held.marked, held.in_zone)
      ];
    },
  )

  pub are_marks_so_far : AreMarks SoFar g.verdict g.world g.lists s.journal (marks_so_far g s)
  are_marks_so_far = record {
    callers = length-map s.callers (λ (k : Caller). k.marks) ∙ sound.callers;
    turns = each_marks s (λ own. length own ≤ g.lists.turns) (λ c k there. let is = sound.each c k there in let few = at_most g.lists.turns k.turn k.phase is.turn in omega (arith, few, is.counted));
    right = λ c t m has. let by = told_by g s c t m has in settled c t m ((sound.each c by.0 by.1).right t m by.2);
    committed = sound.committed;
    rising = each_marks s (AllPairs (λ one later. place_after one ≤ place_of later)) (λ c k there. (sound.each c k there).rising);
  }

module _ (g : Setup) (s : State) (sound : Sound g s) (ended : HaveEnded s) where
  has_ended : (c : ℕ) (k : Caller) → slice_get s.callers c ≡ Some k → k.phase ≡ Ended
  has_ended c k there = subst (λ (j : Caller). j.phase ≡ Ended) (Rattle.std.proofs.lemmas.Option.get_or_from_slice_get s.callers c k k there) (ended c k (slice_get_within s.callers c k there))

  all_marked : (c : ℕ) (k : Caller) → slice_get s.callers c ≡ Some k → length k.marks ≡ g.lists.turns
  all_marked c k there =
      let is = sound.each c k there in
      let e = has_ended c k there in
      is.counted ∙ ap (λ p. marked p k.turn) e ∙ subst (λ p. IsTurn g.lists.turns p k.turn) e is.turn

  pub are_marks : AreMarks AllTurns g.verdict g.world g.lists s.journal (marks_so_far g s)
  are_marks =
      let so_far = are_marks_so_far g s sound (λ c k there. subst (HasFront g s sound.last c k) (has_ended c k there) (sound.each c k there).front) in
      record { callers = so_far.callers; turns = each_marks s (λ own. length own ≡ g.lists.turns) all_marked; right = so_far.right; committed = so_far.committed; rising = so_far.rising }

pub reached_is_good : ReachedIsGood
reached_is_good g ok report reached =
    let s = after g reached.steps in
    let sound = always g ok reached.steps in
    let is = reached.left in
    let world = same_world g s report.world sound.last is.world (run_framed g.verdict g.world sound.last s.journal sound.valid sound.run) sound.values in
    let marks = are_marks g s sound reached.ended in
    record {
      valid = ok.valid;
      first = is.first;
      run = subst (λ (z : List Entry × Config). Run g.verdict g.world z.0 z.1) (λ i. (sym is.entries i, sym world i)) sound.run;
      order = subst (Order g.lists) (sym is.entries) sound.order;
      marks = subst (λ (z : List Entry × Rattle.claim_core.specs.Turns.MarkLists). AreMarks AllTurns g.verdict g.world g.lists z.0 z.1) (λ i. (sym is.entries i, sym is.marks i)) marks;
    }

-- the step at a place of a run
pub run_at : (f : Shown → Verdict) (old new : Config) (es : List Entry) (place : ℕ) (e : Entry) → Run f old es new → slice_get es place ≡ Some e → (world : Config) × Run f old (take place es) world × ((mid : Config) × Step f world e mid × Run f old (take (suc place) es) mid)
run_at f old new [] place e run has = absurd (none-some e has)
run_at f old new (x ∷ es) zero e run has = (old, refl, (run.0, subst (λ y. Step f old y run.0) (same_Some x e has) run.1, (run.0, run.1, refl)))
run_at f old new (x ∷ es) (suc place) e run has =
    let by = run_at f run.0 new es place e run.2 has in
    (by.0, (run.0, run.1, by.1), (by.2.0, by.2.1, (run.0, run.1, by.2.2)))

pub entry_is_decided : EntryIsDecided
entry_is_decided g ok steps place e has =
    let s = after g steps in
    let sound = always g ok steps in
    let by = run_at g.verdict g.world sound.last s.journal place e sound.run has in
    let inside = slice_get_within s.journal place e has in
    (by.0, record { within = omega arith; reached = by.1 }, by.2.1.decided)
