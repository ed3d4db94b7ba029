-- Words, values at home and views stand for at most one state.
use Rattle.std.proofs.Common.{◌≡◌, ℕ, ◌<◌, List, length, map, Option, Some, None, inl, inr, ap, sym, refl, subst, ◌∙◌, arith}
use Rattle.std.specs.Prelude.{slice_get, slice_index, is_some}
use Rattle.std.specs.List.{All}
use Rattle.std.proofs.lemmas.Bool.{cases_lt, false≢true}
use Rattle.std.proofs.lemmas.List.{ext_get_or}
use Rattle.std.proofs.lemmas.List.Elements.{All-weaker}
use Rattle.std.proofs.lemmas.Option.{none-some, slice_get_within}
use Rattle.amoebot_state.specs.declared.verdict.Entry.{Entry}
use Rattle.amoebot_state.specs.declared.verdict.Verdict.{Verdict}
use Rattle.amoebot_state.specs.Steps.{Run}
use Rattle.amoebot_state.specs.Zones.{Shown}
use Rattle.amoebot_state.proofs.Patched.{run_has_one_last}
use Rattle.claim_core.specs.Turns.{Kept}
use Rattle.claim_core.specs.Cells.{values_of, cells}
use Rattle.claim_core.specs.Good.{IsListed}
use Rattle.claim_core.specs.Machine.{Setup, State}
use Rattle.claim_core.specs.Reached.{entries_of}
use Rattle.claim_core.specs.Soundness.{IsSetup, Sound}
use Rattle.claim_core.proofs.OwnEntries.{same_entries}
use Rattle.claim_core.proofs.Places.{same_by_get}
use Rattle.claim_rule.specs.declared.views.Record.{Record}
use Rattle.claim_rule.specs.declared.views.Terms.{Terms}
use Rattle.claim_rule.specs.declared.views.View.{View}
use Rattle.claim_rule.specs.Words.{word_tag}
use Rattle.claim_rule.specs.Views.{Content, setup_of_terms}
use Rattle.claim_rule.specs.Manners.{CommitWay, after_by, first_slotted}
use Rattle.claim_rule.specs.Stands.{cell_tag, HasTaken, HasRecord, Stands}
use Rattle.claim_rule.specs.Laws.{StateIsDetermined}
use Rattle.claim_rule.proofs.NextsLemmas.{tags_count}
use Rattle.claim_rule.proofs.WayLemmas.{sound_by}

-- two records are of one caller, with the same entries
pub record AreAlike (r q : Record) : Type 0 where
  pub number : r.number ≡ q.number
  pub committed : r.committed ≡ q.committed

-- and say the same of the state, apart from the room of a journal that was taken
pub record SayTheSame (r q : Record) : Type 0 where
  pub alike : AreAlike r q
  pub caller : r.caller ≡ q.caller
  pub taken : is_some r.taken ≡ is_some q.taken

pub itself : (r : Record) → SayTheSame r r
itself r = record { alike = record { number = refl; committed = refl }; caller = refl; taken = refl }

-- each record of the one views has such a one in the others
abbrev pub HasTwins : {D : Type 0} → (Record → Record → Type 0) → List (View D) → List (View D) → Type 0
HasTwins Twin views others = (seat place : ℕ) (r : Record) → HasRecord views seat place r → (seat' place' : ℕ) × (q : Record) × HasRecord others seat' place' q × Twin r q

module _ {D : Type 0} (verdict : D → Shown → Verdict) (z : Terms D) (way : CommitWay) (s s' : Content D) (ok : IsSetup (setup_of_terms verdict z)) where
  abbrev g : Setup
  g = setup_of_terms verdict z

  listed : (one : State) → Sound g one → All (λ (e : Entry). e.caller < length z.lists.ids) one.journal
  listed one sound = All-weaker (IsListed z.lists) (λ (e : Entry). e.caller < length z.lists.ids) (λ e is. is.caller) one.journal sound.order.listed

  -- the records of callers determine the journal,
  pub same_journal : (one two : State) → Sound g one → Sound g two → Stands verdict z way s one → Stands verdict z way s' two → HasTwins AreAlike s.views s'.views → one.journal ≡ two.journal
  same_journal one two sound sound' st st' twins = same_entries (length z.lists.ids) 0 one.journal two.journal (listed one sound) (listed two sound') own
    where
      own : (c : ℕ) → c < length z.lists.ids → entries_of c 0 one.journal ≡ entries_of c 0 two.journal
      own c lt =
          let r = st.views.some c lt in
          let q = twins r.0 r.1 r.2 r.3 in
          subst (λ n. entries_of n 0 one.journal ≡ entries_of n 0 two.journal) r.4 (
          sym (st.views.each r.0 r.1 r.2 r.3).committed.entries ∙ ap (map Rattle.claim_core.specs.Reached.placed) q.4.committed
          ∙ (st'.views.each q.0 q.1 q.2 q.3).committed.entries ∙ ap (λ n. entries_of n 0 two.journal) (sym q.4.number)
          )

  -- and so its last world
  pub same_last : (one two : State) (sound : Sound g one) (sound' : Sound g two) → one.journal ≡ two.journal → sound.last ≡ sound'.last
  same_last one two sound sound' same = run_has_one_last g.verdict g.world one.journal sound.last sound'.last sound.run (subst (λ es. Run g.verdict g.world es sound'.last) (sym same) sound'.run)

  -- a word has one tag,
  same_tag : (one two : State) → Stands verdict z way s one → Stands verdict z way s' two → s.words ≡ s'.words → (k : ℕ) → k < cells z.world → cell_tag one k ≡ cell_tag two k
  same_tag one two st st' words k inside = elim (cases_lt k (first_slotted way z.world)) [
    | inl lt ↦ sym (st.words.node k lt).tag ∙ ap (λ (ws : List ℕ). word_tag (slice_index ws k)) words ∙ (st'.words.node k lt).tag
    | inr le ↦ sym (st.words.slotted k le inside) ∙ ap (λ (ws : List ℕ). slice_index ws k) words ∙ st'.words.slotted k le inside
  ]

  -- with the words they determine the state
  pub same_state : (one two : State) → Sound g one → Sound g two → Stands verdict z way s one → Stands verdict z way s' two → s.words ≡ s'.words → HasTwins SayTheSame s.views s'.views → one ≡ two
  same_state one two sound sound' st st' words twins = λ i. record { tags = tags i; values = values i; journal = journal i; holder = holder i; callers = callers i }
    where
      same_callers : (c : ℕ) → c < length z.lists.ids → slice_get one.callers c ≡ slice_get two.callers c
      same_callers c lt =
          let r = st.views.some c lt in
          let q = twins r.0 r.1 r.2 r.3 in
          subst (λ n. slice_get one.callers n ≡ slice_get two.callers n) r.4 ((st.views.each r.0 r.1 r.2 r.3).caller ∙ ap (λ k. Some k) q.4.caller ∙ sym (st'.views.each q.0 q.1 q.2 q.3).caller ∙ ap (slice_get two.callers) (sym q.4.alike.number))

      holds_too : (a b : State) (c : ℕ) (o p : Option Kept) → HasTaken g a c o → HasTaken g b c p → is_some o ≡ is_some p → a.holder ≡ Some c → b.holder ≡ Some c
      holds_too a b c None p has has' same holds = absurd (has holds)
      holds_too a b c (Some j) None has has' same holds = absurd (false≢true (sym same))
      holds_too a b c (Some j) (Some i) has has' same holds = has'.0

      same_holds : (c : ℕ) → c < length z.lists.ids → (one.holder ≡ Some c → two.holder ≡ Some c) × (two.holder ≡ Some c → one.holder ≡ Some c)
      same_holds c lt =
          let r = st.views.some c lt in
          let q = twins r.0 r.1 r.2 r.3 in
          let has = subst (λ n. HasTaken g one n r.2.taken) r.4 (st.views.each r.0 r.1 r.2 r.3).committed.taken in
          let has' = subst (λ n. HasTaken g two n q.2.taken) (sym q.4.alike.number ∙ r.4) (st'.views.each q.0 q.1 q.2 q.3).committed.taken in
          (holds_too one two c r.2.taken q.2.taken has has' q.4.taken, holds_too two one c q.2.taken r.2.taken has' has (sym q.4.taken))

      -- a holder is a caller
      is_caller : (a : State) (c : ℕ) → Sound g a → a.holder ≡ Some c → c < length z.lists.ids
      is_caller a c is holds = let k = is.holder c holds in let n = slice_get_within a.callers c k.0 k.1 in omega (arith, n, is.callers)

      holder : one.holder ≡ two.holder
      holder = by one.holder two.holder refl refl
        where
          by : (a b : Option ℕ) → one.holder ≡ a → two.holder ≡ b → one.holder ≡ two.holder
          by None None e f = e ∙ sym f
          by None (Some c) e f = absurd (none-some c (sym e ∙ (same_holds c (is_caller two c sound' f)).1 f))
          by (Some c) b e f = e ∙ sym ((same_holds c (is_caller one c sound e)).0 e)

      journal : one.journal ≡ two.journal
      journal = same_journal one two sound sound' st st' (λ d j r has. let q = twins d j r has in (q.0, q.1, q.2, q.3, q.4.alike))

      callers : one.callers ≡ two.callers
      callers = same_by_get one.callers two.callers (sound.callers ∙ sym sound'.callers) (λ c k e. let n = slice_get_within two.callers c k e in same_callers c (omega (arith, n, sound'.callers)) ∙ e)

      tags : one.tags ≡ two.tags
      tags =
          let many = (tags_count g ok one sound).0 in
          let many' = (tags_count g ok two sound').0 in
          ext_get_or 0 one.tags two.tags (many ∙ sym many')
          (λ k lt. let inside : k < cells z.world = omega (arith, lt, many) in same_tag one two st st' words k inside)

      values : one.values ≡ two.values
      values = sound.values ∙ ap values_of (same_last one two sound sound' journal) ∙ sym sound'.values

pub state_is_determined : {D : Type 0} (way : CommitWay) (verdict : D → Shown → Verdict) → StateIsDetermined way verdict
state_is_determined way verdict z s one two ok st st' =
    let g = setup_of_terms verdict z in
    same_state verdict z way s s ok (after_by way g one) (after_by way g two) (sound_by g way ok one) (sound_by g way ok two) st st' refl (λ d j r has. (d, j, r, has, itself r))
