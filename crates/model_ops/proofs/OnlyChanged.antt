-- What it tells of the nodes that one member alone has changed.
use Rattle.std.proofs.Common.{arith, ◌≡◌, ◌<◌, ◌+◌, ℕ, suc, List, [], ◌∷◌, drop, drop-cons, filter, get_or, length, Bool, true, false, not, cond, ◌&&◌, ◌||◌, ap, sym, ◌∙◌, refl, inl, inr, Option, Some, None}
use Rattle.std.specs.List.{find}
use Rattle.std.proofs.lemmas.Bool.{cases_Bool, false≢true, not-false}
use Rattle.tri_lattice.specs.declared.node.Node.{Node}
use Rattle.amoebot_state.specs.declared.bot.Bot.{Bot}
use Rattle.amoebot_state.specs.declared.cell.Cell.TheVariants as cell
use Rattle.amoebot_state.specs.Ports.{is_own}
use Rattle.amoebot_state.specs.Patches.{id_eq}
use Rattle.amoebot_state.proofs.Values.{value_same, bot_eq-true}
use Rattle.model_ops.specs.declared.member.Member.{Member}
use Rattle.model_ops.specs.Members.{lower, has_changed, is_crossed, id_found_on, id_on, is_changed}

-- the member that was found so far, as a list
abbrev pub listed : Option Member → List Member
listed None = []
listed (Some m) = m ∷ []

-- a member that has not changed, or that has not crossed the node, has it as it was found
unchanged_stays : (m : Member) (v : Node) → is_changed m ≡ false → is_own m.found v ≡ is_own m.now v
unchanged_stays m v f = ap (λ (b : Bot). is_own b v) (bot_eq-true m.found m.now (not-false _ f))

neither : (x y : Bool) → ((x && not y) || (y && not x)) ≡ false → x ≡ y
neither true true f = refl
neither true false f = absurd (false≢true (sym f))
neither false true f = absurd (false≢true (sym f))
neither false false f = refl

uncrossed_stays : (m : Member) (v : Node) → is_crossed m v ≡ false → is_own m.found v ≡ is_own m.now v
uncrossed_stays m v f = neither (is_own m.found v) (is_own m.now v) f

-- so who is on a node has not changed
same_on : (m : Member) (ms : List Member) (v : Node) → is_own m.found v ≡ is_own m.now v → id_found_on ms v ≡ id_on ms v → id_found_on (m ∷ ms) v ≡ id_on (m ∷ ms) v
same_on m ms v own rest =
    ap (λ t. cond t (Some (lower m.id (id_found_on ms v))) (id_found_on ms v)) own
    ∙ ap (λ o. cond (is_own m.now v) (Some (lower m.id o)) o) rest

none_changed_on : (ms : List Member) (v : Node) → filter is_changed ms ≡ [] → id_found_on ms v ≡ id_on ms v
none_changed_on [] v = λ e. refl
none_changed_on (n ∷ ms) v = elim (cases_Bool (is_changed n)) as (λ _. filter is_changed (n ∷ ms) ≡ [] → id_found_on (n ∷ ms) v ≡ id_on (n ∷ ms) v) [
  | inl t ↦ rw t (λ e. absurd (cc))
  | inr f ↦ rw f (λ e. same_on n ms v (unchanged_stays n v f) (none_changed_on ms v e))
]

uncrossed_on : (ms : List Member) (m : Member) (v : Node) → is_crossed m v ≡ false → filter is_changed ms ≡ m ∷ [] → id_found_on ms v ≡ id_on ms v
uncrossed_on [] m v still = λ e. absurd (cc)
uncrossed_on (n ∷ ms) m v still = elim (cases_Bool (is_changed n)) as (λ _. filter is_changed (n ∷ ms) ≡ m ∷ [] → id_found_on (n ∷ ms) v ≡ id_on (n ∷ ms) v) [
  | inl t ↦ rw t (λ e.
      let same : n ≡ m = cc in
      let rest : filter is_changed ms ≡ [] = cc in
      same_on n ms v (uncrossed_stays n v (ap (λ (k : Member). is_crossed k v) same ∙ still)) (none_changed_on ms v rest))
  | inr f ↦ rw f (λ e. same_on n ms v (unchanged_stays n v f) (uncrossed_on ms m v still e))
]

-- where one member alone has changed, a node that it has not crossed has its occupant as it was found
pub uncrossed_unchanged : (ms : List Member) (m : Member) (v : Node) → is_crossed m v ≡ false → filter is_changed ms ≡ m ∷ [] → has_changed ms v ≡ false
uncrossed_unchanged ms m v still alone =
    ap (λ o. not (id_eq o (id_on ms v))) (uncrossed_on ms m v still alone) ∙ ap not (value_same (Some (cell.Spot (id_on ms v))))

-- the first node that has changed is behind one that has not
pub passed : (ms : List Member) (vs : List Node) (i : ℕ) (d : Node) → i < length vs → has_changed ms (get_or vs i d) ≡ false → find (has_changed ms) (drop i vs) ≡ find (has_changed ms) (drop (i + 1) vs)
passed ms vs i d lt same =
    let next : suc i ≡ i + 1 = omega arith in
    ap (find (has_changed ms)) (drop-cons vs i d lt)
    ∙ ap (λ t. cond t (Some (get_or vs i d)) (find (has_changed ms) (drop (suc i) vs))) same
    ∙ ap (λ k. find (has_changed ms) (drop k vs)) next
