-- A commit that draws its place keeps the rule.
use Rattle.std.proofs.Common.{◌≡◌, ◌≢◌, ℕ, ◌+◌, ◌%◌, ◌^◌, ◌<◌, List, [], ◌∷◌, ◌++◌, length, set, None, inl, ap, sym, refl, subst, ◌∙◌, arith}
use Rattle.std.specs.Prelude.{slice_index}
use Rattle.std.proofs.lemmas.List.Elements.{All-weaker, All-push}
use Rattle.std.proofs.lemmas.Option.{none-some}
use mathlib.Core.Option as home
use Rattle.atomic_table.specs.Table.{step, keeps, Allows}
use Rattle.amoebot_state.specs.declared.verdict.Change.{Change}
use Rattle.amoebot_state.specs.declared.verdict.Verdict.{Verdict}
use Rattle.amoebot_state.specs.declared.verdict.Verdict.TheVariants as decision
use Rattle.amoebot_state.specs.Zones.{Shown}
use Rattle.claim_core.specs.declared.state.Phase.TheVariants.{Taking}
use Rattle.claim_core.specs.Cells.{cells}
use Rattle.claim_core.specs.Limits.{most_turns}
use Rattle.claim_core.specs.Machine.{Setup, State, bot, commits}
use Rattle.claim_core.specs.Reached.{IsShownAt}
use Rattle.claim_core.specs.Soundness.{IsSetup, IsTurn, HasDecision, HasFront, marked}
use Rattle.claim_core.specs.Tickets.{ticket_by_phase, ticket_acts}
use Rattle.claim_rule.specs.declared.views.Slot.{Slot}
use Rattle.claim_rule.specs.declared.views.Record.{Record}
use Rattle.claim_rule.specs.declared.views.Terms.{Terms}
use Rattle.claim_rule.specs.Views.{Content, Seated, view_of, own, setup_of_terms}
use Rattle.claim_rule.specs.Manners.{by_ticket, next_by, first_slotted}
use Rattle.claim_rule.specs.Stands.{turns_left, HasCommitted, AreWords, AreHomes, KeepsRule}
use Rattle.claim_rule.specs.Plays.{HoldsZone}
use Rattle.claim_rule.specs.Commits.{Takes, commit_at, with_commit, drew}
use Rattle.claim_rule.specs.Nexts.{GoesTo, IsAt}
use Rattle.claim_rule.proofs.CommitLemmas as state
use Rattle.claim_rule.proofs.Moves.{sound, on, mine, caller_at, moved, taken_else}
use Rattle.claim_rule.proofs.NextsLemmas.{allowed}
use Rattle.claim_rule.proofs.Tables.{journal_written}

module _ {D : Type 0} {verdict : D → Shown → Verdict} {z : Terms D} {s : Content D} {core : State} {seat : ℕ} {r : Record} (table : IsAt verdict z by_ticket s core seat r) where
  abbrev g : Setup
  g = setup_of_terms verdict z

  abbrev last : ℕ
  last = cells z.world

  module _ (change : Change) (phase : r.caller.phase ≡ Taking change) where
    -- the word that is found is the place
    abbrev place : ℕ
    place = slice_index s.words last

    place_is : place ≡ length core.journal
    place_is = table.stands.words.journal

    decided : HasDecision g (sound table).last (bot g r.number r.caller.turn) r.caller.held (decision.Change change)
    decided = subst (HasFront g core (sound table).last r.number r.caller) phase ((sound table).each r.number r.caller (caller_at table)).front

    abbrev new : State
    new = commits g r.number core r.caller change

    leads : new ≡ next_by by_ticket g r.number core
    leads = sym (ap (ticket_acts g r.number core) (caller_at table) ∙ ap (ticket_by_phase g r.number core r.caller) phase)

    -- one turn more has its mark
    counted : length r.caller.marks < g.lists.turns
    counted =
        let is = (sound table).each r.number r.caller (caller_at table) in
        let turn = subst (λ q. IsTurn g.lists.turns q r.caller.turn) phase is.turn in
        let counts = is.counted ∙ ap (λ q. marked q r.caller.turn) phase in
        omega (arith, turn, counts)

    fewer : turns_left g new + 1 ≡ turns_left g core
    fewer = state.fewer table change place place_is decided counted

    longer : length new.journal ≡ length core.journal + 1
    longer = state.longer table change place place_is decided

    -- so the place is below 65,536, and the word goes to the new length
    few : place < most_turns
    few = let a = place_is in let b = fewer in omega (arith, a, b, table.stands.few)

    put_is : (place + 1) % 2 ^ 64 ≡ length new.journal
    put_is = let a = place_is in let b = longer in let c = few in omega (arith, a, b, c)

    words : AreWords by_ticket g new (set s.words last ((place + 1) % 2 ^ 64))
    words = journal_written by_ticket g core new s.words ((place + 1) % 2 ^ 64) table.stands.words refl (state.free_value table change place place_is decided) (let a = longer in omega (arith, a)) put_is

    homes : AreHomes by_ticket g new s.homes
    homes = record {
      count = table.stands.homes.count;
      cell = λ i y free value. table.stands.homes.cell i y free (sym (state.free_stays table change place place_is decided (first_slotted by_ticket z.world + i) free) ∙ value);
      journal = refl;
    }

    others : (q : Record) → q.number ≢ r.number → HasCommitted g core q.number q.committed q.taken → HasCommitted g new q.number q.committed q.taken
    others q apart is = record {
      entries = is.entries ∙ sym (state.other_entries table change place place_is decided q.number apart);
      found = All-weaker (IsShownAt g core.journal) (IsShownAt g new.journal) (state.still table change place place_is decided) q.committed is.found;
      taken = taken_else g core new q.number q.taken (λ h. none-some q.number (sym table.stands.homes.journal ∙ h)) (λ h. none-some q.number h) is.taken;
    }

    mine_is : HasCommitted g new r.number (r.committed ++ commit_at g r change place ∷ []) None
    mine_is = record {
      entries = state.own_entries table change place place_is decided;
      found = All-push (IsShownAt g new.journal) r.committed (commit_at g r change place) (All-weaker (IsShownAt g core.journal) (IsShownAt g new.journal) (state.still table change place place_is decided) r.committed (mine table).committed.found)
          (state.own_found table change place place_is decided (subst HoldsZone (sym phase) tt));
      taken = λ h. none-some r.number h;
    }

    pub draw_goes : (slots : ℕ) (carried : List (ℕ × Slot)) → GoesTo verdict z by_ticket s (next_by by_ticket g r.number core) last seat (view_of z (r ∷ []), carried) (drew verdict (step slots last 1 0 home.none) (view_of z (r ∷ []), carried)) ((place + 1) % 2 ^ 64)
    draw_goes slots carried = (
      view_of z (with_commit g r change place ∷ []),
      keeps,
      tt,
      moved table new (next_by by_ticket g r.number core) (on table) (with_commit g r change place) (set s.words last ((place + 1) % 2 ^ 64)) s.homes leads refl (state.callers table change place place_is decided) words homes others mine_is (λ q apart rec st. tt) tt
          (let a = fewer in let b = longer in omega (arith, a, b, table.stands.few)),
      (record { change = change; phase = phase; now = refl }, refl, few),
    )

module _ {D : Type 0} (verdict : D → Shown → Verdict) (z : Terms D) (ok : IsSetup (setup_of_terms verdict z)) where
  pub draw_allowed : (slots seat : ℕ) (me : Seated D) → me.0 ≡ view_of z (own me.0 ∷ []) → Takes (own me.0).caller.phase → Allows (KeepsRule verdict z by_ticket) slots seat me (cells z.world) (λ n. (n + 1) % 2 ^ 64) (drew verdict (step slots (cells z.world) 1 0 home.none) me)
  draw_allowed slots seat me one takes =
      allowed verdict z by_ticket ok slots seat me (cells z.world) (λ n. (n + 1) % 2 ^ 64) (λ m. Takes (own m.0).caller.phase) (drew verdict (step slots (cells z.world) 1 0 home.none)) one takes
      (λ s core r table fact. inl (draw_goes table fact.0 fact.1 slots me.1))
