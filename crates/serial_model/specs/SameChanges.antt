-- Proofs that `==` of changes and of their parts says when they are the same.
-- `FormLaws` stands on them.
use Rattle.std.proofs.Common.{rules, ◌≡◌, Bool, true, false, ◌&&◌, ◌⊎◌, inl, inr, ap, sym, ◌∙◌, refl}
use Rattle.std.specs.Prelude.{nat_eq}
use Rattle.std.specs.Bool.{Decides}
use Rattle.std.specs.Cmp.Lexicographic.{pointwise}
use Rattle.std.proofs.lemmas.Bool.{cases_Bool, both_ways, eqb-true, eq-eqb, and_parts, and_from}
use Rattle.std.proofs.lemmas.Slice.Eq.{slice_eq-Decides}
use Rattle.amoebot_state.specs.declared.cell.CellName.{CellName}
use Rattle.amoebot_state.specs.declared.cell.Cell.{Cell}
use Rattle.amoebot_state.specs.declared.cell.Cell.TheVariants as cell
use Rattle.amoebot_state.specs.declared.verdict.Moved.{Moved}
use Rattle.amoebot_state.specs.declared.verdict.Change.{Change}
use Rattle.amoebot_state.specs.declared.verdict.PlainEntry.{PlainEntry}
use Rattle.amoebot_state.specs.contracts.cell.CellNamePartialEq.TheImpl as same_name
use Rattle.amoebot_state.specs.contracts.cell.CellPartialEq.TheImpl as same_cell
use Rattle.amoebot_state.specs.contracts.verdict.MovedPartialEq.TheImpl as same_moved
use Rattle.amoebot_state.specs.Pairs.{CellChange, Pairs, Triples, plain_patch}
use Rattle.amoebot_state.specs.Steps.{entry_of, plain_entry}
use Rattle.amoebot_state.proofs.Values.{fields_decide, chirs_decide}

-- two tests in a row
both_decide : {P Q R : Type 0} {a b : Bool} → Decides a P → Decides b Q
    → (P → Q → R) → (R → P) → (R → Q) → Decides (a && b) R
both_decide one two make first second = (
  (λ t. let parts = and_parts _ _ t in make (one.0 parts.0) (two.0 parts.1)),
  (λ r. and_from _ _ (one.1 (first r)) (two.1 (second r))),
)

movements_decide : (m n : Moved) → Decides (same_moved.eq-value.it m n) (m ≡ n)
movements_decide m n = search rules

names_decide : (m n : CellName) → Decides (same_name.eq-value.it m n) (m ≡ n)
names_decide m n = search rules

cells_decide : (x y : Cell) → Decides (same_cell.eq-value.it x y) (x ≡ y)
cells_decide (cell.Spot o) (cell.Spot p) = search rules
cells_decide (cell.Spot o) (cell.Body b) = search rules
cells_decide (cell.Body a) (cell.Spot p) = search rules
cells_decide (cell.Body a) (cell.Body b) =
    let same = fields_decide a b _ (chirs_decide a.chir b.chir) in
    (λ t. ap cell.Body (same.0 t), λ e. same.1 (cc))

-- `==` of two pairs, and of two triples
abbrev is_same_pair : CellName × Cell → CellName × Cell → Bool
is_same_pair p q = same_name.eq-value.it p.0 q.0 && same_cell.eq-value.it p.1 q.1

abbrev is_same_triple : CellChange → CellChange → Bool
is_same_triple s t =
    (same_name.eq-value.it s.0 t.0 && same_cell.eq-value.it s.1 t.1) && same_cell.eq-value.it s.2 t.2

pairs_decide : (p q : CellName × Cell) → Decides (is_same_pair p q) (p ≡ q)
pairs_decide p q =
    both_decide (names_decide p.0 q.0) (cells_decide p.1 q.1) (λ n x. λ i. (n i, x i))
    (ap (λ (x : CellName × Cell). x.0)) (ap (λ (x : CellName × Cell). x.1))

triples_decide : (s t : CellChange) → Decides (is_same_triple s t) (s ≡ t)
triples_decide s t =
    let first = both_decide {R = (s.0 ≡ t.0) × (s.1 ≡ t.1)} (names_decide s.0 t.0) (cells_decide s.1 t.1)
    (λ n x. (n, x)) (λ r. r.0) (λ r. r.1) in
    both_decide first (cells_decide s.2 t.2) (λ r y. λ i. (r.0 i, r.1 i, y i))
    (λ e. (ap (λ (x : CellChange). x.0) e, ap (λ (x : CellChange). x.1) e)) (ap (λ (x : CellChange). x.2))

-- `==` of two patches
pub patches_decide : (ss ts : Triples) (r : Bool) → r ≡ pointwise is_same_triple ss ts → Decides r (ss ≡ ts)
patches_decide = slice_eq-Decides triples_decide

-- a pair is another where its cell is; else its value says so
pub by_value : (p q : CellName × Cell) (one two : Bool)
    → one ≡ same_name.eq-value.it p.0 q.0
    → two ≡ same_cell.eq-value.it p.1 q.1
    → one ≡ true
    → Decides two (p ≡ q)
by_value p q one two names values t =
    let same = (names_decide p.0 q.0).0 (sym names ∙ t) in (
      (λ u. λ i. (same i, (cells_decide p.1 q.1).0 (sym values ∙ u) i)),
      (λ e. values ∙ (cells_decide p.1 q.1).1 (ap (λ (x : CellName × Cell). x.1) e)),
    )

pub by_name : (p q : CellName × Cell) (one : Bool)
    → one ≡ same_name.eq-value.it p.0 q.0
    → one ≡ false
    → Decides one (p ≡ q)
by_name p q one names f = (
  (λ t. absurd (both_ways _ f t)),
  (λ e. names ∙ (names_decide p.0 q.0).1 (ap (λ (x : CellName × Cell). x.0) e)),
)

-- pairs are those of a patch or are not
plain_decide : (ps : Pairs) (ts : Triples)
    → Decides (pointwise is_same_pair ps (plain_patch ts)) (ps ≡ plain_patch ts)
plain_decide ps ts = slice_eq-Decides pairs_decide ps (plain_patch ts) _ refl

-- the entry of a change is this one without old values
abbrev IsToldBy : PlainEntry → Change → Type 0
IsToldBy p change = plain_entry (entry_of p.caller p.turn p.bot change) ≡ p

-- an entry without old values tells a change, or does not
told_decides : (p : PlainEntry) (change : Change)
    → Decides (nat_eq p.action change.action
    && (same_moved.eq-value.it p.moved change.moved
    && pointwise is_same_pair p.patch (plain_patch change.patch)))
    (IsToldBy p change)
told_decides p change =
    let rest = both_decide {R = (p.moved ≡ change.moved) × (p.patch ≡ plain_patch change.patch)}
    (movements_decide p.moved change.moved) (plain_decide p.patch change.patch)
    (λ m q. (m, q)) (λ r. r.0) (λ r. r.1) in
    both_decide {R = IsToldBy p change} (eqb-true p.action change.action, eq-eqb p.action change.action) rest
    (λ a r. λ i. record {
      caller = p.caller;
      turn = p.turn;
      bot = p.bot;
      action = sym a i;
      moved = sym r.0 i;
      patch = sym r.1 i;
    })
    (λ e. sym (ap (λ (q : PlainEntry). q.action) e))
    (λ e. (sym (ap (λ (q : PlainEntry). q.moved) e), sym (ap (λ (q : PlainEntry). q.patch) e)))

pub told_or_not : (p : PlainEntry) (change : Change) → IsToldBy p change ⊎ (IsToldBy p change → ⊥)
told_or_not p change = elim (cases_Bool _) [
  | inl t ↦ inl ((told_decides p change).0 t)
  | inr f ↦ inr (λ told. both_ways _ f ((told_decides p change).1 told))
]

-- two changes are the same or are not
pub same_or_not : (one two : Change) → (one ≡ two) ⊎ (one ≡ two → ⊥)
same_or_not one two =
    let rest = both_decide {R = (one.moved ≡ two.moved) × (one.patch ≡ two.patch)}
    (movements_decide one.moved two.moved) (patches_decide one.patch two.patch _ refl)
    (λ m p. (m, p)) (λ r. r.0) (λ r. r.1) in
    let all = both_decide {R = one ≡ two} (eqb-true one.action two.action, eq-eqb one.action two.action) rest
    (λ a r. λ i. record { action = a i; moved = r.0 i; patch = r.1 i })
    (ap (λ (c : Change). c.action))
    (λ e. (ap (λ (c : Change). c.moved) e, ap (λ (c : Change). c.patch) e)) in
    elim (cases_Bool _) [
      | inl t ↦ inl (all.0 t)
      | inr f ↦ inr (λ e. both_ways _ f (all.1 e))
    ]
