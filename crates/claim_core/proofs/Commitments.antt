-- What is kept beside the state of what was committed.
use Rattle.std.proofs.Common.{◌≡◌, ℕ, ◌+◌, ◌⊎◌, false, List, [], ◌∷◌, ◌++◌, map, reverse, length, Option, Some, None, inl, inr, ap, sym, refl, subst, ◌∙◌, arith, nat_eq}
use Rattle.std.specs.Prelude.{slice_get, if◌then◌else◌}
use Rattle.std.specs.List.{All}
use Rattle.std.proofs.lemmas.Bool.{cases_Bool, eqb-true, eq-eqb}
use Rattle.std.proofs.lemmas.List.{append-nil, map-append}
use Rattle.std.proofs.lemmas.List.Elements.{All-nil, All-cons, All-append, All-weaker}
use Rattle.amoebot_state.specs.declared.cell.CellName.{CellName}
use Rattle.amoebot_state.specs.declared.cell.Cell.{Cell}
use Rattle.amoebot_state.specs.declared.verdict.Change.{Change}
use Rattle.amoebot_state.specs.declared.verdict.Entry.{Entry}
use Rattle.amoebot_state.specs.Pairs.{Pairs}
use Rattle.amoebot_state.specs.Configs.{Config}
use Rattle.amoebot_state.specs.Zones.{shown_with, shown}
use Rattle.claim_core.specs.declared.state.Phase.{Phase}
use Rattle.claim_core.specs.declared.state.Phase.TheVariants.{Claim, Refusing, Looking, Taking, Committing, Releasing, Ended}
use Rattle.claim_core.specs.declared.state.Caller.{Caller}
use Rattle.claim_core.specs.declared.state.Committed.{Committed}
use Rattle.amoebot_state.specs.Steps.{IsWorldAt}
use Rattle.claim_core.specs.Cells.{number, at}
use Rattle.claim_core.specs.Machine.{Setup, State, bot, found, entry, next_of, wins, claims, finds, tries, takes, releases, by_phase, acts, next, after, commit_of, commit_by, committed}
use Rattle.claim_core.specs.Soundness.{HasFront, Sound}
use Rattle.claim_core.specs.Reached.{entries_of, placed, IsShownAt}
use Rattle.claim_core.specs.Laws.{CommittedIsJournal, CommittedIsShown}
use Rattle.amoebot_state.proofs.Stays.{IsWorldAt-append, world_last}
use Rattle.claim_core.proofs.Fronts.{whole_shown}
use Rattle.claim_core.proofs.HolderLemmas.{framed, valued}
use Rattle.claim_core.proofs.Sounds.{always}

-- an entry without its place
abbrev entry_in : Committed → Entry
entry_in p = p.entry

module _ (g : Setup) where
  -- the journal grows by what is committed
  pub journal-by_phase : (c : ℕ) (s : State) (k : Caller) (p : Phase) → (by_phase g c s k p).journal ≡ s.journal ++ map entry_in (commit_of g c s k p)
  journal-by_phase c s k Claim = tried (next_of g (bot g c k.turn) k.held) ∙ sym (append-nil s.journal)
    where
      won : (n : CellName) (o : Option Cell) → (wins g c s k n o).journal ≡ s.journal
      won n None = refl
      won n (Some x) = refl

      claimed : (n : CellName) (t : ℕ) → (claims g c s k n t).journal ≡ s.journal
      claimed n t = elim (cases_Bool (nat_eq t 0)) [ inl e ↦ rw e (won n (at s.values (number g.world.area n))) | inr e ↦ rw e refl ]

      found_at : (n : CellName) (o : Option ℕ) → (finds g c s k n o).journal ≡ s.journal
      found_at n None = refl
      found_at n (Some t) = claimed n t

      tried : (o : Option CellName) → (tries g c s k o).journal ≡ s.journal
      tried None = refl
      tried (Some n) = found_at n (at s.tags (number g.world.area n))
  journal-by_phase c s k (Refusing n t) = sym (append-nil s.journal)
  journal-by_phase c s k (Looking l) = sym (append-nil s.journal)
  journal-by_phase c s k (Taking change) = taken s.holder ∙ sym (append-nil s.journal)
    where
      taken : (o : Option ℕ) → (takes g c s k change o).journal ≡ s.journal
      taken None = refl
      taken (Some d) = refl
  journal-by_phase c s k (Committing change) = refl
  journal-by_phase c s k Releasing = freed k.held ∙ sym (append-nil s.journal)
    where
      freed : (held : Pairs) → (releases g c s k held).journal ≡ s.journal
      freed [] = refl
      freed (p ∷ held) = refl
  journal-by_phase c s k Ended = sym (append-nil s.journal)

  journal-acts : (c : ℕ) (s : State) (o : Option Caller) → (acts g c s o).journal ≡ s.journal ++ map entry_in (commit_by g c s o)
  journal-acts c s None = sym (append-nil s.journal)
  journal-acts c s (Some k) = journal-by_phase c s k k.phase

  -- nothing is committed, or the entry of a caller at the end
  pub record IsCommit (c : ℕ) (s : State) (o : Option Caller) (k : Caller) (change : Change) : Type 0 where
    pub caller : o ≡ Some k
    pub phase : k.phase ≡ Committing change
    pub commit : commit_by g c s o ≡ (let p : Committed = record { place = length s.journal; entry = entry g c k.turn change; found = found g (bot g c k.turn) k.held } in p) ∷ []

  commit_cases : (c : ℕ) (s : State) (o : Option Caller) → (commit_by g c s o ≡ []) ⊎ ((k : Caller) × (change : Change) × IsCommit c s o k change)
  commit_cases c s None = inl refl
  commit_cases c s (Some k) = by k.phase refl
    where
      by : (p : Phase) → k.phase ≡ p → (commit_by g c s (Some k) ≡ []) ⊎ ((k' : Caller) × (change : Change) × IsCommit c s (Some k) k' change)
      by Claim e = inl (ap (commit_of g c s k) e)
      by (Refusing n t) e = inl (ap (commit_of g c s k) e)
      by (Looking l) e = inl (ap (commit_of g c s k) e)
      by (Taking change) e = inl (ap (commit_of g c s k) e)
      by (Committing change) e = inr (k, change, record { caller = refl; phase = e; commit = ap (commit_of g c s k) e })
      by Releasing e = inl (ap (commit_of g c s k) e)
      by Ended e = inl (ap (commit_of g c s k) e)

-- one more entry
pub entries_of-push : (c place : ℕ) (es : List Entry) (e : Entry) → entries_of c place (es ++ e ∷ []) ≡ entries_of c place es ++ (if nat_eq e.caller c then (place + length es, e) ∷ [] else [])
entries_of-push c place [] e = elim (cases_Bool (nat_eq e.caller c)) [
  | inl t ↦ rw t (λ i. ((let at : place ≡ place + 0 = omega arith in at) i, e) ∷ [])
  | inr f ↦ rw f refl
]
entries_of-push c place (x ∷ es) e =
    let rest = entries_of-push c (place + 1) es e ∙ ap (λ n. entries_of c (place + 1) es ++ (if nat_eq e.caller c then (n, e) ∷ [] else [])) (let at : (place + 1) + length es ≡ place + length (x ∷ es) = omega arith in at) in
    elim (cases_Bool (nat_eq x.caller c)) [
      | inl t ↦ rw t (ap (λ ps. (place, x) ∷ ps) rest)
      | inr f ↦ rw f rest
    ]

-- the entries of a caller after a step of its own, or of another
own_entries : (g : Setup) (c : ℕ) (s : State) (o : Option Caller) (new : List Entry) → new ≡ s.journal ++ map entry_in (commit_by g c s o) → entries_of c 0 new ≡ entries_of c 0 s.journal ++ map placed (commit_by g c s o)
own_entries g c s o new grown = elim (commit_cases g c s o) [
  | inl none ↦
      ap (entries_of c 0) (grown ∙ ap (λ ps. s.journal ++ map entry_in ps) none ∙ append-nil s.journal) ∙ sym (append-nil (entries_of c 0 s.journal)) ∙ ap (λ ps. entries_of c 0 s.journal ++ map placed ps) (sym none)
  | inr some ↦
      let e = entry g c some.0.turn some.1 in
      ap (entries_of c 0) (grown ∙ ap (λ ps. s.journal ++ map entry_in ps) some.2.commit) ∙ entries_of-push c 0 s.journal e
      ∙ ap (λ b. entries_of c 0 s.journal ++ (if b then (0 + length s.journal, e) ∷ [] else [])) (eq-eqb c c refl)
      ∙ ap (λ n. entries_of c 0 s.journal ++ (n, e) ∷ []) (let z : 0 + length s.journal ≡ length s.journal = omega arith in z)
      ∙ ap (λ ps. entries_of c 0 s.journal ++ map placed ps) (sym some.2.commit)
]

other_entries : (g : Setup) (c d : ℕ) (s : State) (o : Option Caller) (new : List Entry) → nat_eq d c ≡ false → new ≡ s.journal ++ map entry_in (commit_by g d s o) → entries_of c 0 new ≡ entries_of c 0 s.journal
other_entries g c d s o new ne grown = elim (commit_cases g d s o) [
  | inl none ↦ ap (entries_of c 0) (grown ∙ ap (λ ps. s.journal ++ map entry_in ps) none ∙ append-nil s.journal)
  | inr some ↦
      let e = entry g d some.0.turn some.1 in
      ap (entries_of c 0) (grown ∙ ap (λ ps. s.journal ++ map entry_in ps) some.2.commit) ∙ entries_of-push c 0 s.journal e
      ∙ ap (λ b. entries_of c 0 s.journal ++ (if b then (0 + length s.journal, e) ∷ [] else [])) ne ∙ append-nil (entries_of c 0 s.journal)
]

pub committed_is_journal : CommittedIsJournal
committed_is_journal g c [] = refl
committed_is_journal g c (d ∷ steps) =
    let s = after g steps in
    let ih = committed_is_journal g c steps in
    let grown = journal-acts g d s (slice_get s.callers d) in
    elim (cases_Bool (nat_eq d c)) [
      | inl t ↦
          let same = eqb-true d c t in
          let grown_c : (next g d s).journal ≡ s.journal ++ map entry_in (commit_by g c s (slice_get s.callers c)) = grown ∙ ap (λ b. s.journal ++ map entry_in (commit_by g b s (slice_get s.callers b))) same in
          rw t (map-append placed (committed g c steps) (commit_by g c s (slice_get s.callers c)) ∙ ap (λ ps. ps ++ map placed (commit_by g c s (slice_get s.callers c))) ih ∙ sym (own_entries g c s (slice_get s.callers c) (next g d s).journal grown_c))
      | inr f ↦ rw f (ih ∙ sym (other_entries g c d s (slice_get s.callers d) (next g d s).journal f grown))
    ]

-- what was found stays shown when the journal grows
still_shown : (g : Setup) (journal more : List Entry) (ps : List Committed) → All (IsShownAt g journal) ps → All (IsShownAt g (journal ++ more)) ps
still_shown g journal more ps all = All-weaker (IsShownAt g journal) (IsShownAt g (journal ++ more)) (λ p is. (is.0, IsWorldAt-append g.verdict g.world is.0 journal more p.place is.1, is.2)) ps all

pub committed_is_shown : CommittedIsShown
committed_is_shown g ok c [] = All-nil (IsShownAt g [])
committed_is_shown g ok c (d ∷ steps) =
    elim (cases_Bool (nat_eq d c)) [
      | inl t ↦ rw t (All-append (IsShownAt g (next g d s).journal) (committed g c steps) (commit_by g c s (slice_get s.callers c)) (before (committed_is_shown g ok c steps)) (new (eqb-true d c t)))
      | inr f ↦ rw f (before (committed_is_shown g ok c steps))
    ]
  where
    s : State
    s = after g steps

    sound : Sound g s
    sound = always g ok steps

    grown : (next g d s).journal ≡ s.journal ++ map entry_in (commit_by g d s (slice_get s.callers d))
    grown = journal-acts g d s (slice_get s.callers d)

    before : All (IsShownAt g s.journal) (committed g c steps) → All (IsShownAt g (next g d s).journal) (committed g c steps)
    before ih = subst (λ es. All (IsShownAt g es) (committed g c steps)) (sym grown) (still_shown g s.journal (map entry_in (commit_by g d s (slice_get s.callers d))) (committed g c steps) ih)

    now : All (IsShownAt g (next g d s).journal) (commit_by g d s (slice_get s.callers d))
    now = elim (commit_cases g d s (slice_get s.callers d)) [
      | inl none ↦ subst (All (IsShownAt g (next g d s).journal)) (sym none) (All-nil (IsShownAt g (next g d s).journal))
      | inr some ↦
          let k = some.0 in
          let change = some.1 in
          let is = sound.each d k some.2.caller in
          let by = subst (HasFront g s sound.last d k) some.2.phase is.front in
          let fr = framed g ok s sound in
          let shows : found g (bot g d k.turn) k.held ≡ shown sound.last (bot g d k.turn) =
          ap (λ (x : Config). shown_with x (bot g d k.turn) (reverse k.held)) (sym fr.same.rest)
          ∙ sym (whole_shown sound.last (bot g d k.turn) k.held (valued g ok s sound d k is) by.whole) in
          let at : IsWorldAt g.verdict g.world (next g d s).journal (length s.journal) sound.last =
          subst (λ es. IsWorldAt g.verdict g.world es (length s.journal) sound.last) (sym grown) (IsWorldAt-append g.verdict g.world sound.last s.journal (map entry_in (commit_by g d s (slice_get s.callers d))) (length s.journal) (world_last g.verdict g.world sound.last s.journal sound.run)) in
          subst (All (IsShownAt g (next g d s).journal)) (sym some.2.commit) (All-cons (IsShownAt g (next g d s).journal) _ [] (sound.last, at, shows) (All-nil (IsShownAt g (next g d s).journal)))
    ]

    new : d ≡ c → All (IsShownAt g (next g d s).journal) (commit_by g c s (slice_get s.callers c))
    new same = subst (λ b. All (IsShownAt g (next g d s).journal) (commit_by g b s (slice_get s.callers b))) same now
