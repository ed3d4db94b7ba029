-- Whatever view and act a seat has taken by a step, the table stands for the state to which the step leads.
use Rattle.std.proofs.Common.{◌≡◌, ◌≢◌, ℕ, ◌+◌, ◌%◌, ◌^◌, List, [], ◌∷◌, length, set, Some, inl, inr, ap, sym, refl, subst, ◌∙◌, eqb, bit_or}
use Rattle.std.specs.Prelude.{slice_index}
use Rattle.std.proofs.lemmas.Bool.{cases_eq}
use Rattle.std.proofs.lemmas.List.Elements.{All-head}
use Rattle.std.proofs.lemmas.Option.{same_Some}
use mathlib.Core.Option as home
use prog.Atomic.{either}
use Rattle.atomic_table.specs.Table.{step, homes_after}
use Rattle.atomic_table.proofs.Lists.{set_here, set_else}
use Rattle.tri_lattice.specs.declared.node.Node.{Node}
use Rattle.amoebot_state.specs.declared.cell.CellName.{CellName}
use Rattle.amoebot_state.specs.declared.cell.CellName.TheVariants as name
use Rattle.amoebot_state.specs.declared.cell.Cell.{Cell}
use Rattle.amoebot_state.specs.declared.cell.Cell.TheVariants as cell
use Rattle.amoebot_state.specs.declared.verdict.Change.{Change}
use Rattle.amoebot_state.specs.declared.verdict.Verdict.{Verdict}
use Rattle.amoebot_state.specs.Configs.{Config, value}
use Rattle.amoebot_state.specs.Zones.{Shown}
use Rattle.claim_core.specs.declared.state.Phase.TheVariants.{Taking, Committing, Refusing}
use Rattle.claim_core.specs.Cells.{cells}
use Rattle.claim_core.specs.Turns.{Kept}
use Rattle.claim_core.specs.Machine.{Setup, State, bot, next_of, next, caller_with_cell}
use Rattle.claim_core.specs.Soundness.{Sound, IsHeld}
use Rattle.claim_rule.specs.declared.views.Slot.{Slot}
use Rattle.claim_rule.specs.declared.views.Note.{Note}
use Rattle.claim_rule.specs.declared.views.Record.{Record}
use Rattle.claim_rule.specs.declared.views.Terms.{Terms}
use Rattle.claim_rule.specs.declared.views.View.{View}
use Rattle.claim_rule.specs.Views.{Content, view_of, with_note, setup_of_terms}
use Rattle.claim_rule.specs.Words.{word_tag}
use Rattle.claim_rule.specs.Manners.{CommitWay, by_journal, by_ticket, next_by, after_by, length_in}
use Rattle.claim_rule.specs.Stands.{HasRecord, Stands, KeepsRule, journal_slot}
use Rattle.claim_rule.specs.Plays.{IsToTry, IsToFree, IsToRead, Claims, Releases, ReadsLength, tried, marked_at, released_caller}
use Rattle.claim_rule.specs.Plays.{IsToTryNode, IsToWin, IsToFreeNode, LooksAt, TriesNode, ReleasesNode, StopsAt, NotesWord, note_of, with_node, refused_at, but_first}
use Rattle.claim_rule.specs.Commits.{Takes, IsToCommit, with_commit, with_journal, TriesJournal, stored, drew}
use Rattle.claim_rule.specs.Nexts.{IsAt, IsEachStep, ClaimIsNext, ReleaseIsNext, NodeLookIsNext, NodeClaimIsNext, NodeReleaseIsNext, LookIsNext, TakeIsNext, CommitIsNext, DrawIsNext}
use Rattle.claim_rule.proofs.Tables.{cases, at_home}
use Rattle.claim_rule.proofs.Determined.{AreAlike, SayTheSame, HasTwins, itself, same_journal, same_last, same_state}
use Rattle.claim_rule.proofs.Moves.{sound, on}
use Rattle.claim_rule.proofs.NodeClaims.{look_stops, look_notes, try_wins, try_stops, try_notes}
use Rattle.claim_rule.proofs.NodeReleases.{node_release_goes}
use Rattle.claim_rule.proofs.Claims.{claim_goes}
use Rattle.claim_rule.proofs.Releases.{release_goes}
use Rattle.claim_rule.proofs.Looks.{look_goes}
use Rattle.claim_rule.proofs.Takings.{take_goes, taken_of, left_of}
use Rattle.claim_rule.proofs.Commits.{commit_goes}
use Rattle.claim_rule.proofs.Draws.{draw_goes}
use Rattle.claim_rule.proofs.WayLemmas.{sound_by}

same_taking : (a b : Change) → Taking a ≡ Taking b → a ≡ b
same_taking a b e = cc

same_committing : (a b : Change) → Committing a ≡ Committing b → a ≡ b
same_committing a b e = cc

same_spot : (u v : Node) → name.Spot u ≡ name.Spot v → u ≡ v
same_spot u v e = cc

alike : (r : Record) → AreAlike r r
alike r = record { number = refl; committed = refl }

module _ {D : Type 0} {verdict : D → Shown → Verdict} {z : Terms D} {way : CommitWay} {s : Content D} {core : State} {seat : ℕ} {r : Record} (table : IsAt verdict z way s core seat r) where
  abbrev g : Setup
  g = setup_of_terms verdict z

  abbrev last : ℕ
  last = cells z.world

  abbrev end : State
  end = next_by way g r.number core

  -- the table after a step with which the seat has this view, or this record alone
  abbrev left : List ℕ → List (home.Option Slot) → View D → Content D
  left words homes v = record { words = words; homes = homes; views = set s.views seat v }

  abbrev given : List ℕ → List (home.Option Slot) → Record → Content D
  given words homes p = left words homes (view_of z (p ∷ []))

  here : (p : Record) → HasRecord (set s.views seat (view_of z (p ∷ []))) seat 0 p
  here p = (view_of z (p ∷ []), set_here s.views seat (view_of z (p ∷ [])) (at_home s.views seat (view_of z (r ∷ [])) table.there), refl)

  twins : (Twin : Record → Record → Type 0) → ((x : Record) → Twin x x) → (p q : Record) → Twin p q → HasTwins Twin (set s.views seat (view_of z (p ∷ []))) (set s.views seat (view_of z (q ∷ [])))
  twins Twin same p q twin d j x has = elim (cases z s.views seat r p table.there d j x has) [
    | inl mine ↦ (seat, 0, q, here q, subst (λ y. Twin y q) mine.2 twin)
    | inr other ↦ (d, j, x, (other.1.0, set_else s.views seat d (view_of z (q ∷ [])) other.0 ∙ other.1.1, other.1.2), same x)
  ]

  -- a table that keeps the rule stands for the same state as another, where the seat's records say the same
  stands_too : (end : State) → Sound g end → (words : List ℕ) (homes homes' : List (home.Option Slot)) (p q : Record) → Stands verdict z way (given words homes' q) end
      → ((other : List ℕ) → Stands verdict z way (given words homes p) (after_by way g other) → SayTheSame p q) → KeepsRule verdict z way (given words homes p) → Stands verdict z way (given words homes p) end
  stands_too end ends words homes homes' p q st says rule =
      subst (Stands verdict z way (given words homes p))
      (same_state verdict z way (given words homes p) (given words homes' q) table.run (after_by way g rule.0) end (sound_by g way table.run rule.0) ends rule.1 st refl (twins SayTheSame itself p q (says rule.0 rule.1))) rule.1

  by_view : (end : State) → Sound g end → (words : List ℕ) (homes homes' : List (home.Option Slot)) (w v : View D) (p q : Record) → w ≡ view_of z (p ∷ []) → v ≡ view_of z (q ∷ []) → Stands verdict z way (left words homes' v) end
      → ((other : List ℕ) → Stands verdict z way (given words homes p) (after_by way g other) → SayTheSame p q) → KeepsRule verdict z way (left words homes w) → Stands verdict z way (left words homes w) end
  by_view end ends words homes homes' w v p q w_is v_is st says rule =
      subst (λ y. Stands verdict z way (left words homes y) end) (sym w_is)
      (stands_too end ends words homes homes' p q (subst (λ y. Stands verdict z way (left words homes' y) end) v_is st) says (subst (λ y. KeepsRule verdict z way (left words homes y)) w_is rule))

  -- the value of a cell that was won is determined, since the journal is
  module _ (n : CellName) where
    abbrev won : Cell → Record
    won x = record r { caller = caller_with_cell g r.number r.caller n x }

    value_in : (end : State) (sound : Sound g end) (words : List ℕ) (homes : List (home.Option Slot)) (x : Cell) → Stands verdict z way (given words homes (won x)) end → value sound.last n ≡ Some x
    value_in end sound words homes x st =
        let there = (st.views.each seat 0 (won x) (here (won x))).caller in
        (All-head (IsHeld g end sound.last r.number r.caller.turn) (n, x) r.caller.held (sound.each r.number (won x).caller there).held).value

    same_won : (words : List ℕ) (homes homes' : List (home.Option Slot)) (x y : Cell) → Stands verdict z way (given words homes' (won y)) end → (other : List ℕ) → Stands verdict z way (given words homes (won x)) (after_by way g other) → SayTheSame (won x) (won y)
    same_won words homes homes' x y st other st' =
        let one = sound_by g way table.run other in
        let two = on table in
        let journal = same_journal verdict z way (given words homes (won x)) (given words homes' (won y)) table.run (after_by way g other) end one two st' st (twins AreAlike alike (won x) (won y) (record { number = refl; committed = refl })) in
        let last_is = same_last verdict z way (given words homes (won x)) (given words homes' (won y)) table.run (after_by way g other) end one two journal in
        let same : x ≡ y = same_Some x y (sym (value_in (after_by way g other) one words homes x st') ∙ ap (λ (c : Config). value c n) last_is ∙ value_in end two words homes' y st) in
        record { alike = record { number = refl; committed = refl }; caller = ap (λ v. caller_with_cell g r.number r.caller n v) same; taken = refl }

  claim_each : (i t slots : ℕ) (out : List (ℕ × Slot)) → IsToTry verdict way i t (view_of z (r ∷ [])) → IsEachStep verdict z way s end i seat (view_of z (r ∷ []), out)
      (Claims verdict way (step slots i 0 t home.none) (view_of z (r ∷ []), out)) (either (eqb (slice_index s.words i) 0) t (slice_index s.words i))
  claim_each i t slots out to w a rule told =
      let goes = claim_goes table i t slots out to in
      let n = tried verdict (view_of z (r ∷ [])) in
      let words = set s.words i (either (eqb (slice_index s.words i) 0) t (slice_index s.words i)) in
      let homes = homes_after s.homes out a in
      let homes' = homes_after s.homes out goes.1 in
      elim (cases_eq (slice_index s.words i) 0) [
        | inl free ↦
            let one = told.0 free in
            let two = goes.4.0 free in
            by_view end (on table) words homes homes' w goes.0 (won n one.value) (won n two.value) one.now two.now goes.3
            (same_won n words homes homes' one.value two.value (subst (λ y. Stands verdict z way (left words homes' y) end) two.now goes.3)) rule
        | inr held ↦
            let p = record r { caller = record r.caller { phase = Refusing n (slice_index s.words i) } } in
            by_view end (on table) words homes homes' w goes.0 p p (told.1 held).now (goes.4.1 held).now goes.3 (λ _ _. itself p) rule
      ]

  release_each : (i slots : ℕ) (out : List (ℕ × Slot)) → IsToFree verdict way i (view_of z (r ∷ []), out) → IsEachStep verdict z way s end i seat (view_of z (r ∷ []), out) (λ _. Releases verdict (step slots i 0 0 home.none) (view_of z (r ∷ []), out) 0) 0
  release_each i slots out to w a rule told =
      let goes = release_goes table i slots out to in
      let p = record r { caller = released_caller g r.caller } in
      by_view end (on table) (set s.words i 0) (homes_after s.homes out a) (homes_after s.homes out goes.1) w goes.0 p p told.0 goes.4.0 goes.3 (λ _ _. itself p) rule

  look_each : (slots : ℕ) (out : List (ℕ × Slot)) → IsToRead r.caller.phase → IsEachStep verdict z way s end last seat (view_of z (r ∷ []), out) (ReadsLength verdict way (step slots last 0 0 home.none) (view_of z (r ∷ []), out)) (slice_index s.words last)
  look_each slots out to w a rule told =
      let goes = look_goes table slots out to in
      let p = record r { caller = marked_at g r.caller (length_in way (slice_index s.words last)) } in
      by_view end (on table) (set s.words last (slice_index s.words last)) (homes_after s.homes out a) (homes_after s.homes out goes.1) w goes.0 p p told.0 goes.4.0 goes.3 (λ _ _. itself p) rule

-- the same of the steps on nodes' words and on the journal
module _ {D : Type 0} {verdict : D → Shown → Verdict} {z : Terms D} {s : Content D} {core : State} {seat : ℕ} {r : Record} (table : IsAt verdict z by_journal s core seat r) where
  abbrev setup_here : Setup
  setup_here = setup_of_terms verdict z

  abbrev behind : ℕ
  behind = cells z.world

  abbrev next_state : State
  next_state = next setup_here r.number core

  take_each : (slots : ℕ) (out : List (ℕ × Slot)) → Takes r.caller.phase → IsEachStep verdict z by_journal s next_state behind seat (view_of z (r ∷ []), out) (TriesJournal verdict (step slots behind 1 0 home.none) (view_of z (r ∷ []), out)) (bit_or (slice_index s.words behind) 1)
  take_each slots out to w a rule told =
      let goes = take_goes table to slots out in
      let words = set s.words behind (bit_or (slice_index s.words behind) 1) in
      elim (cases_eq (slice_index s.words behind % 2) 0) [
        | inl even ↦
            let one = taken_of told even in
            let two = taken_of goes.4 even in
            let change = same_taking one.change two.change (sym one.phase ∙ two.phase) in
            by_view table next_state (on table) words (homes_after s.homes out a) (homes_after s.homes out goes.1) w goes.0 (with_journal r one.change one.journal) (with_journal r two.change two.journal) one.now two.now goes.3
            (λ _ _. record { alike = record { number = refl; committed = refl }; caller = ap (λ c. record r.caller { phase = Committing c }) change; taken = refl }) rule
        | inr odd ↦
            by_view table next_state (on table) words (homes_after s.homes out a) (homes_after s.homes out goes.1) w goes.0 r r (ap (λ (m : View D × List (ℕ × Slot)). m.0) (left_of told odd).0) (ap (λ (m : View D × List (ℕ × Slot)). m.0) (left_of goes.4 odd).0) goes.3
            (λ _ _. itself r) rule
      ]

  commit_each : (x slots : ℕ) (out : List (ℕ × Slot)) → IsToCommit verdict (journal_slot z.world) x (view_of z (r ∷ []), out) → IsEachStep verdict z by_journal s next_state behind seat (view_of z (r ∷ []), out) (λ _. stored verdict (step slots behind x 0 home.none) (view_of z (r ∷ []), out) x) x
  commit_each x slots out to w a rule told =
      let goes = commit_goes table x out to slots in
      let one = told.0 in
      let two = goes.4.0 in
      let change = same_committing one.1.change two.1.change (sym one.1.phase ∙ two.1.phase) in
      let place : one.0 ≡ two.0 = one.1.behind ∙ ap (λ (j : Kept). length j.entries) (same_Some one.1.journal two.1.journal (sym one.1.taken ∙ two.1.taken)) ∙ sym two.1.behind in
      by_view table next_state (on table) (set s.words behind x) (homes_after s.homes out a) (homes_after s.homes out goes.1) w goes.0 (with_commit setup_here r one.1.change one.0) (with_commit setup_here r two.1.change two.0) one.1.now two.1.now goes.3
      (λ _ _. subst (SayTheSame (with_commit setup_here r one.1.change one.0)) (λ i. with_commit setup_here r (change i) (place i)) (itself (with_commit setup_here r one.1.change one.0))) rule

  -- a look at a node's word, and a try to put a tag into it: refused, noted, or won
  same_node : (u v : Node) → next_of setup_here (bot setup_here r.number r.caller.turn) r.caller.held ≡ Some (name.Spot u) → next_of setup_here (bot setup_here r.number r.caller.turn) r.caller.held ≡ Some (name.Spot v) → u ≡ v
  same_node u v e f = same_spot u v (same_Some (name.Spot u) (name.Spot v) (sym e ∙ f))

  stops_alike : (t i : ℕ) (words : List ℕ) (out : List (ℕ × Slot)) (homes homes' : List (home.Option Slot)) (w v : View D) (m m' : List (ℕ × Slot)) → StopsAt verdict (view_of z (r ∷ []), out) t (w, m) → StopsAt verdict (view_of z (r ∷ []), out) t (v, m')
      → Stands verdict z by_journal (left table words homes' v) next_state → KeepsRule verdict z by_journal (left table words homes w) → Stands verdict z by_journal (left table words homes w) next_state
  stops_alike t i words out homes homes' w v m m' one two st rule =
      let node = same_node one.node two.node one.next two.next in
      by_view table next_state (on table) words homes homes' w v (refused_at r one.node (word_tag t)) (refused_at r two.node (word_tag t)) one.now two.now st
      (λ _ _. record { alike = record { number = refl; committed = refl }; caller = ap (λ u. record r.caller { phase = Refusing (name.Spot u) (word_tag t) }) node; taken = refl }) rule

  notes_alike : (t i : ℕ) (words : List ℕ) (out : List (ℕ × Slot)) (homes homes' : List (home.Option Slot)) (w v : View D) (m m' : List (ℕ × Slot)) → NotesWord verdict (view_of z (r ∷ []), out) t (w, m) → NotesWord verdict (view_of z (r ∷ []), out) t (v, m')
      → Stands verdict z by_journal (left table words homes' v) core → KeepsRule verdict z by_journal (left table words homes w) → Stands verdict z by_journal (left table words homes w) core
  notes_alike t i words out homes homes' w v m m' one two st rule =
      by_view table core (sound table) words homes homes' w v (with_note r (Some (note_of one.node t))) (with_note r (Some (note_of two.node t))) one.now two.now st
      (λ _ _. record { alike = record { number = refl; committed = refl }; caller = refl; taken = refl }) rule

  node_look_stops : (i slots : ℕ) (out : List (ℕ × Slot)) (to : IsToTryNode verdict i (view_of z (r ∷ []))) → word_tag (slice_index s.words i) ≢ 0 → IsEachStep verdict z by_journal s next_state i seat (view_of z (r ∷ []), out) (LooksAt verdict (step slots i 0 0 home.none) (view_of z (r ∷ []), out)) (slice_index s.words i)
  node_look_stops i slots out to held w a rule told =
      let goes = look_stops table i slots out to held in
      stops_alike (slice_index s.words i) i (set s.words i (slice_index s.words i)) out (homes_after s.homes out a) (homes_after s.homes out goes.1) w goes.0 _ _ (told.1 held) (goes.4.1 held) goes.3 rule

  node_look_notes : (i slots : ℕ) (out : List (ℕ × Slot)) (to : IsToTryNode verdict i (view_of z (r ∷ []))) → word_tag (slice_index s.words i) ≡ 0 → IsEachStep verdict z by_journal s core i seat (view_of z (r ∷ []), out) (LooksAt verdict (step slots i 0 0 home.none) (view_of z (r ∷ []), out)) (slice_index s.words i)
  node_look_notes i slots out to free w a rule told =
      let goes = look_notes table i slots out to free in
      notes_alike (slice_index s.words i) i (set s.words i (slice_index s.words i)) out (homes_after s.homes out a) (homes_after s.homes out goes.1) w goes.0 _ _ (told.0 free) (goes.4.0 free) goes.3 rule

  node_try_wins : (i old put slots : ℕ) (out : List (ℕ × Slot)) (to : IsToWin verdict i old put (view_of z (r ∷ []))) → slice_index s.words i ≡ old → IsEachStep verdict z by_journal s next_state i seat (view_of z (r ∷ []), out) (TriesNode verdict (step slots i old put home.none) (view_of z (r ∷ []), out)) put
  node_try_wins i old put slots out to hit w a rule told =
      let goes = try_wins table i old put slots out to hit in
      let one = told.0 hit in
      let two = goes.4.0 hit in
      let note = same_Some one.note two.note (sym one.noted ∙ two.noted) in
      by_view table next_state (on table) (set s.words i put) (homes_after s.homes out a) (homes_after s.homes out goes.1) w goes.0 (with_node setup_here r one.note) (with_node setup_here r two.note) one.now two.now goes.3
      (λ _ _. record { alike = record { number = refl; committed = refl }; caller = ap (λ (n : Note). caller_with_cell setup_here r.number r.caller (name.Spot n.node) (cell.Spot n.occ)) note; taken = refl }) rule

  node_try_stops : (i old put slots : ℕ) (out : List (ℕ × Slot)) (to : IsToWin verdict i old put (view_of z (r ∷ []))) → word_tag (slice_index s.words i) ≢ 0 → IsEachStep verdict z by_journal s next_state i seat (view_of z (r ∷ []), out) (TriesNode verdict (step slots i old put home.none) (view_of z (r ∷ []), out)) (slice_index s.words i)
  node_try_stops i old put slots out to held w a rule told =
      let goes = try_stops table i old put slots out to held in
      stops_alike (slice_index s.words i) i (set s.words i (slice_index s.words i)) out (homes_after s.homes out a) (homes_after s.homes out goes.1) w goes.0 _ _ (told.1 held) (goes.4.1 held) goes.3 rule

  node_try_notes : (i old put slots : ℕ) (out : List (ℕ × Slot)) (to : IsToWin verdict i old put (view_of z (r ∷ []))) → word_tag (slice_index s.words i) ≡ 0 → slice_index s.words i ≢ old
      → IsEachStep verdict z by_journal s core i seat (view_of z (r ∷ []), out) (TriesNode verdict (step slots i old put home.none) (view_of z (r ∷ []), out)) (slice_index s.words i)
  node_try_notes i old put slots out to free other w a rule told =
      let goes = try_notes table i old put slots out to free other in
      notes_alike (slice_index s.words i) i (set s.words i (slice_index s.words i)) out (homes_after s.homes out a) (homes_after s.homes out goes.1) w goes.0 _ _ (told.2 free other).0 (goes.4.2 free other).0 goes.3 rule

  -- the release of a node
  node_release_each : (i x slots : ℕ) (out : List (ℕ × Slot)) → IsToFreeNode verdict i x (view_of z (r ∷ [])) → IsEachStep verdict z by_journal s next_state i seat (view_of z (r ∷ []), out) (λ _. ReleasesNode verdict (step slots i x 0 home.none) (view_of z (r ∷ []), out) x) x
  node_release_each i x slots out to w a rule told =
      let goes = node_release_goes table i x slots out to in
      let p = record r { caller = released_caller setup_here r.caller; won = but_first r.won } in
      by_view table next_state (on table) (set s.words i x) (homes_after s.homes out a) (homes_after s.homes out goes.1) w goes.0 p p told.0 goes.4.0 goes.3 (λ _ _. itself p) rule

-- and of a commit that draws its place
module _ {D : Type 0} {verdict : D → Shown → Verdict} {z : Terms D} {s : Content D} {core : State} {seat : ℕ} {r : Record} (table : IsAt verdict z by_ticket s core seat r) where
  draw_each : (slots : ℕ) (out : List (ℕ × Slot)) → Takes r.caller.phase → IsEachStep verdict z by_ticket s (next_by by_ticket (setup_of_terms verdict z) r.number core) (cells z.world) seat (view_of z (r ∷ []), out) (drew verdict (step slots (cells z.world) 1 0 home.none) (view_of z (r ∷ []), out)) ((slice_index s.words (cells z.world) + 1) % 2 ^ 64)
  draw_each slots out to w a rule told =
      let goes = draw_goes table to.0 to.1 slots out in
      let one = told.0 in
      let two = goes.4.0 in
      let place = slice_index s.words (cells z.world) in
      let change = same_taking one.change two.change (sym one.phase ∙ two.phase) in
      by_view table (next_by by_ticket (setup_of_terms verdict z) r.number core) (on table) (set s.words (cells z.world) ((place + 1) % 2 ^ 64)) (homes_after s.homes out a) (homes_after s.homes out goes.1) w goes.0 (with_commit (setup_of_terms verdict z) r one.change place) (with_commit (setup_of_terms verdict z) r two.change place) one.now two.now goes.3
      (λ _ _. subst (SayTheSame (with_commit (setup_of_terms verdict z) r one.change place)) (λ i. with_commit (setup_of_terms verdict z) r (change i) place) (itself (with_commit (setup_of_terms verdict z) r one.change place))) rule

pub claim_is_next : {D : Type 0} (verdict : D → Shown → Verdict) (z : Terms D) (way : CommitWay) → ClaimIsNext verdict z way
claim_is_next verdict z way s core seat i t slots r out is to = record { some = claim_goes is i t slots out to; each = claim_each is i t slots out to }

pub node_look_is_next : {D : Type 0} (verdict : D → Shown → Verdict) (z : Terms D) → NodeLookIsNext verdict z
node_look_is_next verdict z s core seat i slots r out is to = (
  (λ held. record { some = look_stops is i slots out to held; each = node_look_stops is i slots out to held }),
  λ free. record { some = look_notes is i slots out to free; each = node_look_notes is i slots out to free },
)

pub node_claim_is_next : {D : Type 0} (verdict : D → Shown → Verdict) (z : Terms D) → NodeClaimIsNext verdict z
node_claim_is_next verdict z s core seat i old put slots r out is to = (
  (λ hit. record { some = try_wins is i old put slots out to hit; each = node_try_wins is i old put slots out to hit }),
  (λ held. record { some = try_stops is i old put slots out to held; each = node_try_stops is i old put slots out to held }),
  λ free other. record { some = try_notes is i old put slots out to free other; each = node_try_notes is i old put slots out to free other },
)

pub release_is_next : {D : Type 0} (verdict : D → Shown → Verdict) (z : Terms D) (way : CommitWay) → ReleaseIsNext verdict z way
release_is_next verdict z way s core seat i slots r out is to = record { some = release_goes is i slots out to; each = release_each is i slots out to }

pub node_release_is_next : {D : Type 0} (verdict : D → Shown → Verdict) (z : Terms D) → NodeReleaseIsNext verdict z
node_release_is_next verdict z s core seat i x slots r out is to = record { some = node_release_goes is i x slots out to; each = node_release_each is i x slots out to }

pub look_is_next : {D : Type 0} (verdict : D → Shown → Verdict) (z : Terms D) (way : CommitWay) → LookIsNext verdict z way
look_is_next verdict z way s core seat slots r out is to = record { some = look_goes is slots out to; each = look_each is slots out to }

pub take_is_next : {D : Type 0} (verdict : D → Shown → Verdict) (z : Terms D) → TakeIsNext verdict z
take_is_next verdict z s core seat slots r out is to = record { some = take_goes is to slots out; each = take_each is slots out to }

pub commit_is_next : {D : Type 0} (verdict : D → Shown → Verdict) (z : Terms D) → CommitIsNext verdict z
commit_is_next verdict z s core seat x slots r out is to = record { some = commit_goes is x out to slots; each = commit_each is x slots out to }

pub draw_is_next : {D : Type 0} (verdict : D → Shown → Verdict) (z : Terms D) → DrawIsNext verdict z
draw_is_next verdict z s core seat slots r out is to = record { some = draw_goes is to.0 to.1 slots out; each = draw_each is slots out to }
