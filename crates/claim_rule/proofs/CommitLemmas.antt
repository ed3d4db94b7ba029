-- The state after a commit of a caller, by either way: what it leaves, and what joins the caller's own entries.
use Rattle.std.proofs.Common.{◌≡◌, ◌≢◌, ℕ, zero, suc, ◌+◌, ◌<◌, ◌≤◌, Option, List, [], ◌∷◌, ◌++◌, map, length, length-append, set, Some, None, ap, sym, refl, subst, ◌∙◌, arith, eq-eqb, ne_eqb}
use Rattle.std.specs.Prelude.{slice_get, if◌then◌else◌}
use Rattle.std.specs.List.{All, Contains}
use Rattle.std.proofs.lemmas.List.{map-append, append-nil}
use Rattle.std.proofs.lemmas.List.Elements.{All-head, All-tail, All-weaker, All-contains}
use Rattle.std.proofs.lemmas.Option.{none-some, same_Some, get_or_from_slice_get}
use Rattle.tri_lattice.specs.Extent.{Extent}
use Rattle.amoebot_state.specs.declared.cell.CellName.{CellName}
use Rattle.amoebot_state.specs.declared.cell.Cell.{Cell}
use Rattle.amoebot_state.specs.declared.verdict.Change.{Change}
use Rattle.amoebot_state.specs.declared.verdict.Entry.{Entry}
use Rattle.amoebot_state.specs.declared.verdict.Verdict.{Verdict}
use Rattle.amoebot_state.specs.declared.verdict.Verdict.TheVariants as decision
use Rattle.amoebot_state.specs.Pairs.{Pairs, cell_of, plain_patch}
use Rattle.amoebot_state.specs.Steps.{DecidesChange}
use Rattle.amoebot_state.specs.Zones.{Shown, zone}
use Rattle.amoebot_state.proofs.Members.{Has-from_Contains, Contains-from_Has}
use Rattle.claim_core.specs.declared.marks.Mark.{Mark}
use Rattle.claim_core.specs.declared.marks.Mark.TheVariants as mark
use Rattle.claim_core.specs.declared.state.Caller.{Caller}
use Rattle.claim_core.specs.declared.state.Committed.{Committed}
use Rattle.claim_core.specs.Cells.{number, at, patched}
use Rattle.claim_core.specs.Machine.{Setup, State, bot, entry, freeing_caller, patched_pair, commits}
use Rattle.claim_core.specs.Reached.{entries_of, placed, IsShownAt}
use Rattle.claim_core.specs.Soundness.{IsHeld, HasDecision, names}
use Rattle.claim_core.proofs.Nexts.{frees-marks}
use Rattle.claim_core.proofs.Places.{at-put_else}
use Rattle.claim_core.proofs.Tags.{tag-positive}
use Rattle.claim_core.proofs.Fronts.{name_of_held}
use Rattle.claim_core.proofs.Frames.{own_stays}
use Rattle.claim_core.proofs.HolderLemmas.{framed, is_known}
use Rattle.amoebot_state.proofs.Stays.{IsWorldAt-append, world_last}
use Rattle.claim_core.proofs.Commitments.{entries_of-push}
use Rattle.claim_rule.specs.declared.views.Record.{Record}
use Rattle.claim_rule.specs.declared.views.Terms.{Terms}
use Rattle.claim_rule.specs.Views.{Content, setup_of_terms}
use Rattle.claim_rule.specs.Manners.{CommitWay}
use Rattle.claim_rule.specs.Stands.{cell_tag, turns_left}
use Rattle.claim_rule.specs.Plays.{HoldsZone}
use Rattle.claim_rule.specs.Commits.{commit_at, with_commit}
use Rattle.claim_rule.specs.Nexts.{IsAt}
use Rattle.claim_core.proofs.Numbers.{length-patched}
use Rattle.claim_rule.proofs.Moves.{sound, mine, caller_at, counts}
use Rattle.claim_rule.proofs.Shows.{shows}
use Rattle.claim_rule.proofs.MarkLemmas.{one_fewer}

-- what stands at no place of a list
past : {A : Type 0} (xs : List A) (k : ℕ) → slice_get xs k ≡ None → length xs ≤ k
past [] k e = omega arith
past (x ∷ xs) zero e = absurd (none-some x (sym e))
past (x ∷ xs) (suc k) e = let ih = past xs k e in omega (arith, ih)

slice_get_past : {A : Type 0} (xs : List A) (k : ℕ) → length xs ≤ k → slice_get xs k ≡ None
slice_get_past [] k le = refl
slice_get_past (x ∷ xs) zero le = absurd (omega (arith, le))
slice_get_past (x ∷ xs) (suc k) le = slice_get_past xs k (omega (arith, le))

-- a cell that the patch does not name keeps its value
patched_else : (a : Extent) (ps : Pairs) (xs : List Cell) (i : ℕ) → All (λ (p : CellName × Cell). number a (cell_of p) ≢ Some i) ps → slice_get (patched a ps xs) i ≡ slice_get xs i
patched_else a [] xs i all = refl
patched_else a (p ∷ ps) xs i all =
    at-put_else (patched a ps xs) (number a (cell_of p)) (Some i) p.1 (λ e. All-head (λ (q : CellName × Cell). number a (cell_of q) ≢ Some i) p ps all (sym e))
    ∙ patched_else a ps xs i (All-tail (λ (q : CellName × Cell). number a (cell_of q) ≢ Some i) p ps all)

module _ {D : Type 0} {verdict : D → Shown → Verdict} {z : Terms D} {way : CommitWay} {s : Content D} {core : State} {seat : ℕ} {r : Record} (table : IsAt verdict z way s core seat r) (change : Change) (place : ℕ) (place_is : place ≡ length core.journal)
    (decided : HasDecision (setup_of_terms verdict z) (sound table).last (bot (setup_of_terms verdict z) r.number r.caller.turn) r.caller.held (decision.Change change)) where
  abbrev g : Setup
  g = setup_of_terms verdict z

  abbrev e : Entry
  e = entry g r.number r.caller.turn change

  abbrev k' : Caller
  k' = (with_commit g r change place).caller

  abbrev pub committed_state : State
  committed_state = commits g r.number core r.caller change

  pub callers : committed_state.callers ≡ set core.callers r.number k'
  callers = ap (λ n. set core.callers r.number (freeing_caller g r.caller.turn (map (patched_pair (plain_patch change.patch)) r.caller.held) (r.caller.marks ++ mark.Done n ∷ []))) (sym place_is)

  more : length k'.marks ≡ length r.caller.marks + 1
  more = ap (λ (ms : List Mark). length ms) (frees-marks g r.caller.turn (map (patched_pair (plain_patch change.patch)) r.caller.held) (r.caller.marks ++ mark.Done place ∷ [])) ∙ length-append r.caller.marks (mark.Done place ∷ [])

  pub fewer : length r.caller.marks < g.lists.turns → turns_left g committed_state + 1 ≡ turns_left g core
  fewer counted = ap (λ (ks : List Caller). Rattle.claim_core.specs.Cores.unmarked g.lists.turns (map (λ (j : Caller). j.marks) ks) + 1) callers ∙ one_fewer g.lists.turns core.callers r.number r.caller k' (caller_at table) counted more

  pub longer : length committed_state.journal ≡ length core.journal + 1
  longer = length-append core.journal (e ∷ [])

  -- a free cell is none of the patch
  changes : DecidesChange g.verdict (sound table).last (bot g r.number r.caller.turn) change
  changes = record { valid = (framed g table.run core (sound table)).valid; there = own_stays g table.run r.number r.caller.turn (is_known g table.run core (sound table) r.number r.caller (caller_at table)) (sound table).last (framed g table.run core (sound table)); decided = decided.verdict }

  not_held : (i : ℕ) → slice_get core.tags i ≡ Some 0 → (n : CellName) → Contains (names r.caller.held) n → number z.world.area n ≢ Some i
  not_held i free n held same =
      let p = name_of_held n r.caller.held (Has-from_Contains (names r.caller.held) held) in
      let is = All-contains (IsHeld g core (sound table).last r.number r.caller.turn) r.caller.held p.0 ((sound table).each r.number r.caller (caller_at table)).held (Contains-from_Has r.caller.held p.1) in
      tag-positive r.number r.caller.turn (bot g r.number r.caller.turn) (same_Some _ 0 (sym is.tag ∙ ap (λ m. at core.tags (number z.world.area m)) (sym p.2) ∙ ap (at core.tags) same ∙ free))

  pub free_stays : (i : ℕ) → slice_get core.tags i ≡ Some 0 → slice_get committed_state.values i ≡ slice_get core.values i
  free_stays i free = patched_else z.world.area (plain_patch change.patch) core.values i
      (All-weaker (λ (p : CellName × Cell). Contains (zone (sound table).last (bot g r.number r.caller.turn)) (cell_of p)) (λ (p : CellName × Cell). number z.world.area (cell_of p) ≢ Some i)
      (λ p in_zone. not_held i free (cell_of p) (subst (λ ns. Contains ns (cell_of p)) (sym decided.whole) in_zone)) (plain_patch change.patch) (table.run.touches (sound table).last (bot g r.number r.caller.turn) change changes))

  pub free_value : (k : ℕ) → cell_tag core k ≡ 0 → slice_get committed_state.values k ≡ slice_get core.values k
  free_value k none = by (slice_get core.tags k) refl
    where
      by : (o : Option ℕ) → slice_get core.tags k ≡ o → slice_get committed_state.values k ≡ slice_get core.values k
      by (Some t) q = free_stays k (q ∙ ap (λ (m : ℕ). Some m) (sym (get_or_from_slice_get core.tags k t 0 q) ∙ none))
      by None q = by_length (slice_get_past core.values k (sized (past core.tags k q)))
        where
          sized : length core.tags ≤ k → length core.values ≤ k
          sized le = omega (arith, le, (counts table).0, (counts table).1)

          by_length : slice_get core.values k ≡ None → slice_get committed_state.values k ≡ slice_get core.values k
          by_length n = slice_get_past committed_state.values k (let le = sized (past core.tags k q) in let same = length-patched z.world.area (plain_patch change.patch) core.values in omega (arith, le, same)) ∙ sym n

  -- what was committed stays found
  pub still : (p : Committed) → IsShownAt g core.journal p → IsShownAt g committed_state.journal p
  still p f = (f.0, IsWorldAt-append g.verdict g.world f.0 core.journal (e ∷ []) p.place f.1, f.2)

  -- another caller has the entries that it had
  pub other_entries : (d : ℕ) → d ≢ r.number → entries_of d 0 committed_state.journal ≡ entries_of d 0 core.journal
  other_entries d apart =
      entries_of-push d 0 core.journal e
      ∙ ap (λ b. entries_of d 0 core.journal ++ (if b then (0 + length core.journal, e) ∷ [] else [])) (ne_eqb r.number d (λ f. apart (sym f))) ∙ append-nil (entries_of d 0 core.journal)

  -- and the own caller one more
  pub own_entries : map placed (r.committed ++ commit_at g r change place ∷ []) ≡ entries_of r.number 0 committed_state.journal
  own_entries =
      map-append placed r.committed (commit_at g r change place ∷ []) ∙ (λ i. (mine table).committed.entries i ++ ((place_is ∙ (let q : length core.journal ≡ 0 + length core.journal = omega arith in q)) i, e) ∷ [])
      ∙ sym (entries_of-push r.number 0 core.journal e ∙ ap (λ b. entries_of r.number 0 core.journal ++ (if b then (0 + length core.journal, e) ∷ [] else [])) (eq-eqb r.number r.number refl))

  pub own_found : HoldsZone r.caller.phase → IsShownAt g committed_state.journal (commit_at g r change place)
  own_found holds = (
    (sound table).last,
    subst (λ n. Rattle.amoebot_state.specs.Steps.IsWorldAt g.verdict g.world committed_state.journal n (sound table).last) (sym place_is)
        (IsWorldAt-append g.verdict g.world (sound table).last core.journal (e ∷ []) (length core.journal) (world_last g.verdict g.world (sound table).last core.journal (sound table).run)),
    shows g table.run core (sound table) r.number r.caller (caller_at table) holds,
  )
