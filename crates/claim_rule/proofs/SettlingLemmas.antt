-- What a caller keeps that takes the journal, and that commits.
use Rattle.std.proofs.Common.{◌≡◌, ℕ, ◌+◌, ◌*◌, ◌<◌, List, [], ◌∷◌, ◌++◌, map, length, inl, inr, ap, sym, refl, subst, ◌∙◌, arith, length-append, Bool, true}
use Rattle.std.specs.Prelude.{slice_get}
use Rattle.std.proofs.lemmas.List.{length-map}
use Rattle.std.proofs.lemmas.List.Elements.{All-map}
use Rattle.std.proofs.lemmas.Option.{same_Some}
use Rattle.atomic_table.specs.Table.{rest}
use Rattle.tri_lattice.specs.declared.node.Node.{Node}
use Rattle.amoebot_state.specs.declared.cell.CellName.{CellName}
use Rattle.amoebot_state.specs.declared.cell.CellName.TheVariants as name
use Rattle.amoebot_state.specs.declared.cell.Cell.{Cell}
use Rattle.amoebot_state.specs.declared.verdict.Change.{Change}
use Rattle.amoebot_state.specs.declared.verdict.Entry.{Entry}
use Rattle.amoebot_state.specs.declared.verdict.Verdict.{Verdict}
use Rattle.amoebot_state.specs.Pairs.{Pairs, cell_of, plain_patch}
use Rattle.amoebot_state.specs.Configs.{Config}
use Rattle.amoebot_state.specs.Zones.{Shown}
use Rattle.amoebot_state.proofs.Fronts.{slice_get_behind}
use Rattle.amoebot_state.specs.Steps.{entry_of}
use Rattle.claim_core.specs.declared.marks.Mark.{Mark}
use Rattle.claim_core.specs.declared.marks.Mark.TheVariants as mark
use Rattle.claim_core.specs.declared.state.Caller.{Caller}
use Rattle.claim_core.specs.declared.state.Phase.{Phase}
use Rattle.claim_core.specs.declared.state.Phase.TheVariants.{Taking, Committing, Releasing}
use Rattle.claim_core.specs.Limits.{most_turns}
use Rattle.claim_core.specs.Turns.{Kept}
use Rattle.claim_core.specs.Machine.{Setup, entry, freeing_caller, patched_pair}
use Rattle.claim_core.proofs.Nexts.{frees-marks, frees-held}
use Rattle.claim_rule.specs.declared.views.Slot.{Slot}
use Rattle.claim_rule.specs.declared.views.Slot.TheVariants as slot
use Rattle.claim_rule.specs.declared.views.Note.{Note}
use Rattle.claim_rule.specs.declared.views.Record.{Record}
use Rattle.claim_rule.specs.declared.views.View.{View}
use Rattle.claim_rule.specs.Views.{Seated, own, like}
use Rattle.tri_lattice.specs.Extent.{Extent}
use Rattle.claim_rule.specs.Manners.{CommitWay, by_journal, by_ticket, noted_nodes}
use Rattle.claim_rule.specs.Stands.{journal_slot}
use Rattle.claim_rule.specs.Plays.{IsPlaced, about}
use Rattle.claim_rule.specs.Commits.{GotJournal, IsPushed, IsToCommit, Commits, Draws, with_journal, with_commit}
use Rattle.claim_rule.specs.Tokens.{AreOut, IsActivation, HoldsWholeZone, IsFreeing}
use Rattle.claim_rule.specs.Settling.{untaken, IsTaken}
use Rattle.claim_rule.proofs.ActivationLemmas.{with_held, stays, whole_some}

-- the change of a phase, and the journal of the slot that was taken last
abbrev change_or : Change → Phase → Change
change_or d (Taking change) = change
change_or d (Committing change) = change
change_or d p = d

abbrev journal_or : Kept → List (ℕ × Slot) → Kept
journal_or d [] = d
journal_or d ((i, slot.Cell x) ∷ out) = d
journal_or d ((i, slot.Journal j) ∷ out) = j

-- new values leave the cells, and their slots, which are stale then
pub out_still : (way : CommitWay) (a : Extent) (s : Bool) (patch xs : Pairs) (outs : List (ℕ × Slot)) → AreOut way a s xs outs → AreOut way a true (map (patched_pair patch) xs) outs
out_still by_journal a s patch [] outs are = are
out_still by_journal a s patch ((name.Spot v, x) ∷ xs) outs are = out_still by_journal a s patch xs outs are
out_still by_journal a s patch ((name.Body i, x) ∷ xs) outs are = (are.0, are.1, are.2, (λ e. cc), out_still by_journal a s patch xs are.1 are.4)
out_still by_ticket a s patch [] outs are = are
out_still by_ticket a s patch ((n, x) ∷ xs) outs are = (are.0, are.1, are.2, (λ e. cc), out_still by_ticket a s patch xs are.1 are.4)

pub nodes_renewed : (way : CommitWay) (patch xs : Pairs) → noted_nodes way (map (patched_pair patch) xs) ≡ noted_nodes way xs
nodes_renewed by_journal patch [] = refl
nodes_renewed by_journal patch ((name.Spot v, x) ∷ xs) = ap (λ (vs : List Node). v ∷ vs) (nodes_renewed by_journal patch xs)
nodes_renewed by_journal patch ((name.Body i, x) ∷ xs) = nodes_renewed by_journal patch xs
nodes_renewed by_ticket patch xs = refl

not_released : (change : Change) → Taking change ≡ Releasing → ⊥
not_released change e = cc

module _ {D : Type 0} (verdict : D → Shown → Verdict) (m : Seated D) (c t b : ℕ) (s : Bool) (bare : Config) (pairs : Pairs) (notes : List Note) where
  abbrev g : Setup
  g = about verdict m.0

  -- the journal was got
  pub got_it : (told : Shown) (after : ℕ) (change : Change) (i : ℕ) (m' : Seated D) → IsActivation verdict by_journal m c t b s bare pairs notes → HoldsWholeZone verdict m t b pairs told after → (own m.0).caller.phase ≡ Taking change → i ≡ journal_slot g.world
      → (got : GotJournal i m m') → IsTaken verdict m' c t b s bare pairs notes change × (m'.0 ≡ like m.0 (with_journal (own m.0) change got.journal ∷ []))
  got_it told after_mark change i m' is wh phase at_i got = (subst (λ q. IsTaken verdict q c t b s bare pairs notes change) (sym now) after, ap (λ (q : Seated D). q.0) now)
    where
      same_change : got.change ≡ change
      same_change = ap (change_or change) (sym got.phase ∙ phase)

      v : View D
      v = like m.0 (with_journal (own m.0) change got.journal ∷ [])

      now : m' ≡ (v, (journal_slot g.world, slot.Journal got.journal) ∷ m.1)
      now = λ q. ((got.now ∙ (λ p. like m.0 (with_journal (own m.0) (same_change p) got.journal ∷ []))) q, (got.out ∙ (λ p. (at_i p, slot.Journal got.journal) ∷ m.1)) q)

      k : Caller
      k = record (own m.0).caller { phase = Committing change }

      counted : length (own m.0).caller.marks ≡ t
      counted = elim wh.phase [
        | inl decided ↦ decided.1
        | inr released ↦ absurd (not_released change (sym phase ∙ released.0))
      ]

      after : IsTaken verdict (v, (journal_slot g.world, slot.Journal got.journal) ∷ m.1) c t b s bare pairs notes change
      after = record {
        alone = refl;
        activation = stays verdict by_journal m c t b s bare pairs notes is (untaken (v, (journal_slot g.world, slot.Journal got.journal) ∷ m.1)) k (λ p. like m.0 (record (own m.0) { caller = k; taken = sym is.taken p } ∷ [])) refl refl;
        turn = wh.turn;
        counted = counted;
        whole = wh.whole;
        phase = refl;
        journal = got.journal;
        taken = refl;
        room = got.room;
        out = refl;
      }

  module _ (change : Change) (tk : IsTaken verdict m c t b s bare pairs notes change) (i : ℕ) (j : Kept) (there : m.1 ≡ (i, slot.Journal j) ∷ rest m.1) where
    same_journal : j ≡ tk.journal
    same_journal = ap (journal_or j) (sym there ∙ tk.out)

    entry_is : entry g (own m.0).number (own m.0).caller.turn change ≡ entry_of c t b change
    entry_is = λ p. entry_of (tk.activation.number p) (tk.turn p) (((λ q. Rattle.claim_core.specs.Machine.bot g (tk.activation.number q) (tk.turn q)) ∙ sym tk.activation.bot) p) change

    -- with the entry in the journal the change is to be committed
    pub to_commit : (x : ℕ) (next : Kept) (m' : Seated D) → m' ≡ (m.0, (i, slot.Journal next) ∷ rest m.1) → IsPushed j (entry_of c t b change) next → x ≡ length j.entries + 1
        → IsToCommit verdict i (2 * x) m'
    to_commit x next m' now pushed longer = subst (IsToCommit verdict i (2 * x)) (sym now) (record {
      change = change;
      phase = tk.phase;
      journal = tk.journal;
      taken = tk.taken;
      next = next;
      pushed = subst (λ (q : Kept × Entry). IsPushed q.0 q.1 next) (λ p. (same_journal p, sym entry_is p)) pushed;
      more = rest m.1;
      out = refl;
      word = ap (λ n. 2 * n) (longer ∙ sym (length-append j.entries (entry_of c t b change ∷ [])) ∙ ap (λ (es : List Entry). length es) (sym pushed.entries));
    })

    -- and afterwards it is
    pub has_stored : (place : ℕ) (next : Kept) (m' m2 : Seated D) (news : Pairs) → m' ≡ (m.0, (i, slot.Journal next) ∷ rest m.1) → (n : ℕ) × Commits verdict m'.0 m2.0 n → m2.1 ≡ rest m'.1 → place ≡ length j.entries → news ≡ map (patched_pair (plain_patch change.patch)) pairs
        → IsActivation verdict by_journal m2 c t b true bare news notes × IsFreeing verdict m2 t news (place + 1) × (0 < length news) × (m2.0 ≡ like m.0 (with_commit g (own m.0) change place ∷ []))
    has_stored place next m' m2 news now told out place_is news_are = (
      subst (λ (q : Seated D × Pairs). IsActivation verdict by_journal q.0 c t b true bare q.1 notes) (λ p. (sym now2 p, sym news_are p)) after,
      subst (λ (q : Seated D × Pairs). IsFreeing verdict q.0 t q.1 (place + 1)) (λ p. (sym now2 p, sym news_are p)) freeing,
      subst (λ (ps : Pairs). 0 < length ps) (sym news_are) some,
      ap (λ (q : Seated D). q.0) now2,
    )
      where
        ps : Pairs
        ps = map (patched_pair (plain_patch change.patch)) pairs

        did : Commits verdict m.0 m2.0 told.0
        did = subst (λ (q : Seated D). Commits verdict q.0 m2.0 told.0) now told.1

        same_change : did.change ≡ change
        same_change = ap (change_or change) (sym did.phase ∙ tk.phase)

        same_place : told.0 ≡ place
        same_place = did.behind ∙ ap (λ (q : Kept). length q.entries) (same_Some did.journal tk.journal (sym did.taken ∙ tk.taken) ∙ sym same_journal) ∙ sym place_is

        r : Record
        r = with_commit g (own m.0) change place

        now2 : m2 ≡ (like m.0 (r ∷ []), rest m.1)
        now2 = λ p. ((did.now ∙ (λ q. like m.0 (with_commit g (own m.0) (same_change q) (same_place q) ∷ []))) p, (out ∙ ap (λ (q : Seated D). rest q.1) now) p)

        ms : List Mark
        ms = (own m.0).caller.marks ++ mark.Done place ∷ []

        k_is : r.caller ≡ freeing_caller g t ps ms
        k_is = λ p. freeing_caller g (tk.turn p) (map (patched_pair (plain_patch change.patch)) (tk.activation.held p)) ms

        some : 0 < length ps
        some = let one = whole_some g b pairs tk.whole in omega (arith, one, length-map pairs (patched_pair (plain_patch change.patch)))

        after : IsActivation verdict by_journal (like m.0 (r ∷ []), rest m.1) c t b true bare ps notes
        after = with_held verdict by_journal (untaken m) c t b s bare pairs notes tk.activation true r (rest m.1) ps notes tk.activation.few tk.activation.number refl (ap (λ (q : Caller). q.held) k_is ∙ frees-held g t ps ms)
            (All-map (λ (p : CellName × Cell). (n : ℕ) × IsPlaced g (cell_of p) n) (patched_pair (plain_patch change.patch)) pairs tk.activation.placed) tk.activation.won tk.activation.note
            (tk.activation.nodes ∙ sym (nodes_renewed by_journal (plain_patch change.patch) pairs)) (out_still by_journal bare.area s (plain_patch change.patch) pairs (rest m.1) tk.activation.out)

        marks_are : r.caller.marks ≡ ms
        marks_are = ap (λ (q : Caller). q.marks) k_is ∙ frees-marks g t ps ms

        freeing : IsFreeing verdict (like m.0 (r ∷ []), rest m.1) t ps (place + 1)
        freeing = record {
          caller = k_is ∙ ap (freeing_caller g t ps) (sym marks_are);
          marked = record {
            mark = mark.Done place;
            counted = ap (λ (q : List Mark). length q) marks_are ∙ length-append (own m.0).caller.marks (mark.Done place ∷ []) ∙ ap (λ n. n + 1) tk.counted;
            there = ap (λ q. slice_get q t) marks_are ∙ ap (slice_get ms) (sym tk.counted) ∙ slice_get_behind (own m.0).caller.marks (mark.Done place) [];
            stamp = refl;
            few = (let e = place_is ∙ ap (λ (q : Kept). length q.entries) same_journal in let f = tk.room.few in omega (arith, e, f));
          };
        }

  -- the change was committed at the place that was drawn
  pub drawn_is : (way : CommitWay) (told : Shown) (after : ℕ) (change : Change) (place : ℕ) (m2 : Seated D) (news : Pairs) → IsActivation verdict way m c t b s bare pairs notes → HoldsWholeZone verdict m t b pairs told after → (own m.0).caller.phase ≡ Taking change
      → Draws verdict m.0 m2.0 place → m2.1 ≡ m.1 → place < most_turns → news ≡ map (patched_pair (plain_patch change.patch)) pairs
      → IsActivation verdict way m2 c t b true bare news notes × IsFreeing verdict m2 t news (place + 1) × (0 < length news) × (m2.0 ≡ like m.0 (with_commit g (own m.0) change place ∷ []))
  drawn_is way told after change place m2 news is wh phase did out few news_are = (
    subst (λ (q : Seated D × Pairs). IsActivation verdict way q.0 c t b true bare q.1 notes) (λ p. (sym now p, sym news_are p)) acts,
    subst (λ (q : Seated D × Pairs). IsFreeing verdict q.0 t q.1 (place + 1)) (λ p. (sym now p, sym news_are p)) freeing,
    subst (λ (ps : Pairs). 0 < length ps) (sym news_are) some,
    ap (λ (q : Seated D). q.0) now,
  )
    where
      ps : Pairs
      ps = map (patched_pair (plain_patch change.patch)) pairs

      same_change : did.change ≡ change
      same_change = ap (change_or change) (sym did.phase ∙ phase)

      r : Record
      r = with_commit g (own m.0) change place

      now : m2 ≡ (like m.0 (r ∷ []), m.1)
      now = λ p. ((did.now ∙ (λ q. like m.0 (with_commit g (own m.0) (same_change q) place ∷ []))) p, out p)

      ms : List Mark
      ms = (own m.0).caller.marks ++ mark.Done place ∷ []

      k_is : r.caller ≡ freeing_caller g t ps ms
      k_is = λ p. freeing_caller g (wh.turn p) (map (patched_pair (plain_patch change.patch)) (is.held p)) ms

      some : 0 < length ps
      some = let one = whole_some g b pairs wh.whole in omega (arith, one, length-map pairs (patched_pair (plain_patch change.patch)))

      counted : length (own m.0).caller.marks ≡ t
      counted = elim wh.phase [
        | inl decided ↦ decided.1
        | inr released ↦ absurd (not_released change (sym phase ∙ released.0))
      ]

      acts : IsActivation verdict way (like m.0 (r ∷ []), m.1) c t b true bare ps notes
      acts = with_held verdict way m c t b s bare pairs notes is true r m.1 ps notes is.few is.number refl (ap (λ (q : Caller). q.held) k_is ∙ frees-held g t ps ms)
          (All-map (λ (p : CellName × Cell). (n : ℕ) × IsPlaced g (cell_of p) n) (patched_pair (plain_patch change.patch)) pairs is.placed) is.won is.note
          (is.nodes ∙ sym (nodes_renewed way (plain_patch change.patch) pairs)) (out_still way bare.area s (plain_patch change.patch) pairs m.1 is.out)

      marks_are : r.caller.marks ≡ ms
      marks_are = ap (λ (q : Caller). q.marks) k_is ∙ frees-marks g t ps ms

      freeing : IsFreeing verdict (like m.0 (r ∷ []), m.1) t ps (place + 1)
      freeing = record {
        caller = k_is ∙ ap (freeing_caller g t ps) (sym marks_are);
        marked = record {
          mark = mark.Done place;
          counted = ap (λ (q : List Mark). length q) marks_are ∙ length-append (own m.0).caller.marks (mark.Done place ∷ []) ∙ ap (λ n. n + 1) counted;
          there = ap (λ q. slice_get q t) marks_are ∙ ap (slice_get ms) (sym counted) ∙ slice_get_behind (own m.0).caller.marks (mark.Done place) [];
          stamp = refl;
          few = (let f = few in omega (arith, f));
        };
      }
