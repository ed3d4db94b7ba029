-- Marks that are copied, one caller after another.
use Rattle.std.proofs.Common.{◌≡◌, ℕ, zero, suc, ◌+◌, ◌<◌, ◌≤◌, List, [], ◌∷◌, ◌++◌, map, length, take, get_or, set, replicate, length-append, Vec, Global, Some, ap, sym, refl, ◌∙◌, subst, arith}
use Rattle.std.specs.Prelude.{slice_get}
use Rattle.std.specs.List.{All}
use Rattle.std.proofs.lemmas.List.{append-nil, append_assoc, length-map, map-append}
use Rattle.std.proofs.lemmas.Option.{slice_get_within, slice_get-get_or, get_or_from_slice_get}
use Rattle.std.proofs.Math.Seq.{take-suc}
use Rattle.claim_core.specs.declared.marks.Mark.{Mark}
use Rattle.claim_core.specs.Turns.{MarkLists, marks_of}
use Rattle.claim_core.proofs.Places.{get-append_right, get-map, map-get}
use Rattle.caller_workers.specs.WorkerStates.{with_marks}

-- the next caller's turns
next_own : {A : Type 0} (whole done others : List (List A)) (d : List A) → whole ≡ done ++ others → length done < length whole → (rest : List (List A)) × (others ≡ get_or whole (length done) d ∷ rest)
next_own whole done [] d is lt = absurd (omega (arith, lt, ap length (is ∙ append-nil done)))
next_own whole done (o ∷ others) d is lt = (others, ap (λ own. own ∷ others) (sym (get_or_from_slice_get whole (length done) o d (ap (λ xs. slice_get xs (length done)) is ∙ get-append_right done (o ∷ others) 0 (length done) (omega arith)))))

-- one more mark of a caller
copied_one : (ms : List (List Mark)) (c : ℕ) (own : List Mark) (m : Mark) → c < length ms
    → set (set ms c (get_or ms c [] ++ own)) c (get_or (set ms c (get_or ms c [] ++ own)) c [] ++ m ∷ []) ≡ set ms c (get_or ms c [] ++ (own ++ m ∷ []))
copied_one [] c own m lt = absurd (omega (arith, lt))
copied_one (x ∷ ms) zero own m lt = ap (λ z. z ∷ ms) (append_assoc x own (m ∷ []))
copied_one (x ∷ ms) (suc c) own m lt = ap (λ zs. x ∷ zs) (copied_one ms c own m (omega (arith, lt)))

module _ {A : Type 0} (mark : A → Mark) where
  -- the marks of the callers up to one are there, and the others have none
  abbrev pub filled_up_to : List (List A) → List (List A) → List (List Mark)
  filled_up_to done others = map (map mark) done ++ map (λ _. []) others

  -- so many callers that have none
  pub none_filled : (turns : List (List A)) → replicate (length turns) [] ≡ filled_up_to [] turns
  none_filled [] = refl
  none_filled (t ∷ turns) = ap (λ zs. [] ∷ zs) (none_filled turns)

  pub one_filled : (done others : List (List A)) (own : List A) → set (filled_up_to done (own ∷ others)) (length done) (get_or (filled_up_to done (own ∷ others)) (length done) [] ++ map mark own) ≡ filled_up_to (done ++ own ∷ []) others
  one_filled [] others own = refl
  one_filled (d ∷ done) others own = ap (λ zs. map mark d ∷ zs) (one_filled done others own)

  pub none_yet : (done others : List (List A)) (own : List A) → get_or (filled_up_to done (own ∷ others)) (length done) [] ≡ []
  none_yet [] others own = refl
  none_yet (d ∷ done) others own = none_yet done others own

  -- the marks of one more turn
  pub one_more : (old now new : MarkLists) (c : ℕ) (own : List A) (k : ℕ) (turn : A) (m : Mark) → c < length old.marks → k < length own → now ≡ with_marks old c (map mark (take k own)) → turn ≡ get_or own k turn → m ≡ mark turn
      → new ≡ record { turns = now.turns; marks = set now.marks c (marks_of now c ++ m ∷ []) } → new ≡ with_marks old c (map mark (take (k + 1) own))
  one_more old now new c own k turn m lt inside is read marked added =
      let next : take (suc k) own ≡ take k own ++ turn ∷ [] = take-suc own k turn inside ∙ ap (λ t. take k own ++ t ∷ []) (sym read) in
      let after : suc k ≡ k + 1 = omega arith in
      added ∙ (λ i. record { turns = (is i).turns; marks = set (is i).marks c (marks_of (is i) c ++ marked i ∷ []) }) ∙ ap (λ ms. record old { marks = ms }) (copied_one old.marks c (map mark (take k own)) (mark turn) lt)
      ∙ ap (with_marks old c) (sym (map-append mark (take k own) (turn ∷ [])) ∙ ap (map mark) (sym next) ∙ ap (λ n. map mark (take n own)) after)

  -- the marks of the first so many callers are copied
  pub record AreFilled (whole : List (List A)) (old now : MarkLists) (k c : ℕ) : Type 0 where
    pub done : List (List A)
    pub others : List (List A)
    pub all : whole ≡ done ++ others
    pub at : length done ≡ k
    pub caller : c ≡ k
    pub marks : now ≡ record old { marks = filled_up_to done others }

  pub first_filled : (whole : List (List A)) (old : MarkLists) → old ≡ record { turns = old.turns; marks = replicate (length whole) [] } → AreFilled whole old old 0 0
  first_filled whole old none = record { done = []; others = whole; all = refl; at = refl; caller = refl; marks = none ∙ ap (λ ms. record old { marks = ms }) (none_filled whole) }

  -- once all are
  pub all_filled : (whole : List (List A)) (old now : MarkLists) (k c : ℕ) → AreFilled whole old now k c → length whole ≤ k → now ≡ record old { marks = map (map mark) whole }
  all_filled whole old now k c are le = by are.others refl
    where
      by : (others : List (List A)) → are.others ≡ others → now ≡ record old { marks = map (map mark) whole }
      by [] is =
          are.marks ∙ ap (λ os. record old { marks = filled_up_to are.done os }) is ∙ ap (λ ms. record old { marks = ms }) (append-nil (map (map mark) are.done))
          ∙ ap (λ own. record old { marks = map (map mark) own }) (sym (are.all ∙ ap (λ os. are.done ++ os) is ∙ append-nil are.done))
      by (o ∷ others) is =
          let count : length whole ≡ length (are.done ++ o ∷ others) = ap (λ (own : List (List A)). length own) (are.all ∙ ap (λ os. are.done ++ os) is) in
          absurd (omega (arith, le, count, are.at, length-append are.done (o ∷ others)))

  module _ (whole : List (List A)) (old now : MarkLists) (k c : ℕ) (are : AreFilled whole old now k c) (inside : k < length whole) (own : List A) (is : own ≡ get_or whole k []) where
    abbrev next : (rest : List (List A)) × (are.others ≡ get_or whole (length are.done) [] ∷ rest)
    next = next_own whole are.done are.others [] are.all (omega (arith, inside, are.at))

    others_are : are.others ≡ own ∷ next.0
    others_are = next.1 ∙ ap (λ o. o ∷ next.0) (ap (λ n. get_or whole n []) are.at ∙ sym is)

    filled : now.marks ≡ filled_up_to are.done (own ∷ next.0)
    filled = ap (λ (m : MarkLists). m.marks) are.marks ∙ ap (filled_up_to are.done) others_are

    here : c ≡ length are.done
    here = are.caller ∙ sym are.at

    pub has_none : marks_of now c ≡ []
    has_none = (λ i. get_or (filled i) (here i) []) ∙ none_yet are.done next.0 own

    pub has_room : All (λ o. length o ≡ old.turns) whole → length (marks_of now c) + length own ≤ now.turns
    has_room all =
        let none : length (marks_of now c) ≡ 0 = ap (λ (ms : List Mark). length ms) has_none in
        let full : length own ≡ old.turns = ap (λ (o : List A). length o) is ∙ all k [] inside in
        let turns : now.turns ≡ old.turns = ap (λ (m : MarkLists). m.turns) are.marks in
        omega (arith, none, full, turns)

    pub next_filled : (new : MarkLists) → new ≡ with_marks now c (map mark own) → AreFilled whole old new (k + 1) (c + 1)
    next_filled new copied = record {
      done = are.done ++ own ∷ [];
      others = next.0;
      all = are.all ∙ ap (λ os. are.done ++ os) others_are ∙ sym (append_assoc are.done (own ∷ []) next.0);
      at = length-append are.done (own ∷ []) ∙ ap (λ n. n + 1) are.at;
      caller = ap (λ n. n + 1) are.caller;
      marks = copied ∙ (λ i. record { turns = (are.marks i).turns; marks = set (filled i) (here i) (get_or (filled i) (here i) [] ++ map mark own) }) ∙ ap (λ ms. record old { marks = ms }) (one_filled are.done next.0 own);
    }

-- there are as many answers as is told of them
pub lengths_told : {A B : Type 0} (told : A → B) (n : ℕ) (answers : List (Vec A Global)) → All (λ own. length own ≡ n) (map (λ own. map told own.items) answers) → All (λ own. length own ≡ n) (map (λ own. own.items) answers)
lengths_told told n answers all c d lt =
    let lists = map (λ own. map told own.items) answers in
    let m = map-get (λ own. own.items) answers c (get_or (map (λ own. own.items) answers) c d) (slice_get-get_or (map (λ own. own.items) answers) c d lt) in
    let at : slice_get lists c ≡ Some (map told m.0.items) = get-map (λ own. map told own.items) answers c m.0 m.1 in
    subst (λ own. length own ≡ n) m.2
    (sym (length-map m.0.items told) ∙ ap length (sym (get_or_from_slice_get lists c (map told m.0.items) [] at)) ∙ all c [] (slice_get_within lists c (map told m.0.items) at))
