-- Loops over the elements of an `and` or an `or`, and over the ports of a set.
use Rattle.std.proofs.Common.{◌≡◌, ◌≤◌, ◌<◌, ◌+◌, ◌∙◌, ℕ, Bool, true, false, List, length, drop, get_or, refl, sym, ap, arith}
use Rattle.std.specs.Prelude.{Result, Ok, Err}
use Rattle.std.proofs.Math.ListN.{drop_of_length-le}
use Rattle.std.proofs.lemmas.Bool.{and_parts}
use Rattle.amoebot_state.specs.declared.bot.Port.{Port}
use Rattle.amoebot_state.specs.declared.verdict.Failure.{Failure}
use Rattle.model_ops.specs.Sights.{Sight}
use Rattle.action_tree.specs.declared.expression.Guard as code
use Rattle.action_tree.specs.declared.expression.PortSet.{PortSet}
use Rattle.action_tree.specs.Trees.{Guards, guard_then}
use Rattle.action_tree.specs.Views.{guard_of, guards_of}
use Rattle.action_tree.specs.Writable.{is_guard, are_guards}
use Rattle.action_check.specs.Rules.{GuardKept, GuardsKept}
use Rattle.action_tree.specs.Scopes.{Scope}
use Rattle.action_meaning.specs.Names.{Names}
use Rattle.action_meaning.specs.Choices.{Asked, count_of_ports}
use Rattle.action_meaning.specs.Values.{guard_value, each_value, some_value}
use Rattle.action_eval.specs.Known.{is_in_set}
use Rattle.action_eval.proofs.PortsOf.{ports_from, told_here, told_over}
use Rattle.action_eval.proofs.ChoicesLemmas.{and_so_many, count_goes_on, count_one_more, count_fails, and_more}
use Rattle.action_check.proofs.FaultLoops.{here}

-- ---- guards

pub record GuardsLeft (value : Guards → Result Bool Failure) (sc : Scope) (gs : List code.Guard) (i : ℕ) : Type 0 where
  pub kept : GuardsKept sc (guards_of (drop i gs))
  pub counted : are_guards (guards_of (drop i gs)) ≡ true
  pub told : value (guards_of gs) ≡ value (guards_of (drop i gs))

abbrev pub EachLeft : Sight → Names → Scope → List code.Guard → ℕ → Type 0
EachLeft s xs sc gs i = GuardsLeft (each_value s xs) sc gs i

abbrev pub SomeLeft : Sight → Names → Scope → List code.Guard → ℕ → Type 0
SomeLeft s xs sc gs i = GuardsLeft (some_value s xs) sc gs i

pub guard_kept : (value : Guards → Result Bool Failure) (sc : Scope) (gs : List code.Guard) (i : ℕ) (g : code.Guard) → GuardsLeft value sc gs i → i < length gs → g ≡ get_or gs i g → GuardKept sc (guard_of g) × (is_guard (guard_of g) ≡ true)
guard_kept value sc gs i g left l is =
    let kept = rw (here gs i g l is) at left.kept in
    let counted = rw (here gs i g l is) at left.counted in
    (kept.0, (and_parts _ _ counted).0)

guards_told : (value : Guards → Result Bool Failure) (sc : Scope) (gs : List code.Guard) (i : ℕ) (g : code.Guard) (r : Result Bool Failure) → GuardsLeft value sc gs i → i < length gs → g ≡ get_or gs i g → value (guard_then (guard_of g) (guards_of (drop (i + 1) gs))) ≡ r → value (guards_of gs) ≡ r
guards_told value sc gs i g r left l is e =
    let told = rw (here gs i g l is) at left.told in
    told ∙ e

guards_next : (value : Guards → Result Bool Failure) (sc : Scope) (gs : List code.Guard) (i : ℕ) (g : code.Guard) → GuardsLeft value sc gs i → i < length gs → g ≡ get_or gs i g → value (guard_then (guard_of g) (guards_of (drop (i + 1) gs))) ≡ value (guards_of (drop (i + 1) gs)) → GuardsLeft value sc gs (i + 1)
guards_next value sc gs i g left l is on =
    let kept = rw (here gs i g l is) at left.kept in
    let counted = rw (here gs i g l is) at left.counted in
    record { kept = kept.1; counted = (and_parts _ _ counted).1; told = guards_told value sc gs i g _ left l is on }

pub each_next : (s : Sight) (xs : Names) (sc : Scope) (gs : List code.Guard) (i : ℕ) (g : code.Guard) → EachLeft s xs sc gs i → i < length gs → g ≡ get_or gs i g → guard_value s xs (guard_of g) ≡ Ok true → EachLeft s xs sc gs (i + 1)
each_next s xs sc gs i g left l is e = guards_next (each_value s xs) sc gs i g left l is (rw e refl)

pub each_decided : (s : Sight) (xs : Names) (sc : Scope) (gs : List code.Guard) (i : ℕ) (g : code.Guard) → EachLeft s xs sc gs i → i < length gs → g ≡ get_or gs i g → guard_value s xs (guard_of g) ≡ Ok false → each_value s xs (guards_of gs) ≡ Ok false
each_decided s xs sc gs i g left l is e = guards_told (each_value s xs) sc gs i g (Ok false) left l is (rw e refl)

pub each_fails : (s : Sight) (xs : Names) (sc : Scope) (gs : List code.Guard) (i : ℕ) (g : code.Guard) (f : Failure) → EachLeft s xs sc gs i → i < length gs → g ≡ get_or gs i g → guard_value s xs (guard_of g) ≡ Err f → each_value s xs (guards_of gs) ≡ Err f
each_fails s xs sc gs i g f left l is e = guards_told (each_value s xs) sc gs i g (Err f) left l is (rw e refl)

pub each_over : (s : Sight) (xs : Names) (sc : Scope) (gs : List code.Guard) (i : ℕ) → EachLeft s xs sc gs i → length gs ≤ i → each_value s xs (guards_of gs) ≡ Ok true
each_over s xs sc gs i left l = rw (drop_of_length-le gs l) at left.told

pub some_next : (s : Sight) (xs : Names) (sc : Scope) (gs : List code.Guard) (i : ℕ) (g : code.Guard) → SomeLeft s xs sc gs i → i < length gs → g ≡ get_or gs i g → guard_value s xs (guard_of g) ≡ Ok false → SomeLeft s xs sc gs (i + 1)
some_next s xs sc gs i g left l is e = guards_next (some_value s xs) sc gs i g left l is (rw e refl)

pub some_decided : (s : Sight) (xs : Names) (sc : Scope) (gs : List code.Guard) (i : ℕ) (g : code.Guard) → SomeLeft s xs sc gs i → i < length gs → g ≡ get_or gs i g → guard_value s xs (guard_of g) ≡ Ok true → some_value s xs (guards_of gs) ≡ Ok true
some_decided s xs sc gs i g left l is e = guards_told (some_value s xs) sc gs i g (Ok true) left l is (rw e refl)

pub some_fails : (s : Sight) (xs : Names) (sc : Scope) (gs : List code.Guard) (i : ℕ) (g : code.Guard) (f : Failure) → SomeLeft s xs sc gs i → i < length gs → g ≡ get_or gs i g → guard_value s xs (guard_of g) ≡ Err f → some_value s xs (guards_of gs) ≡ Err f
some_fails s xs sc gs i g f left l is e = guards_told (some_value s xs) sc gs i g (Err f) left l is (rw e refl)

pub some_over : (s : Sight) (xs : Names) (sc : Scope) (gs : List code.Guard) (i : ℕ) → SomeLeft s xs sc gs i → length gs ≤ i → some_value s xs (guards_of gs) ≡ Ok false
some_over s xs sc gs i left l = rw (drop_of_length-le gs l) at left.told

-- ---- ports, with the number of those counted before

pub count_next : (asked : Asked) (whole : Result ℕ Failure) (s : Sight) (set : PortSet) (ps : List Port) (i n : ℕ) (d : Port) → whole ≡ and_so_many n (count_of_ports asked (ports_from s set ps i)) → i < length ps → is_in_set s set (get_or ps i d) ≡ true → asked (get_or ps i d) ≡ Ok false → whole ≡ and_so_many n (count_of_ports asked (ports_from s set ps (i + 1)))
count_next asked whole s set ps i n d left l is e = told_here (λ qs. and_so_many n (count_of_ports asked qs)) whole s set ps i d _ left l is (ap (and_so_many n) (count_goes_on asked _ _ e))

pub count_here : (asked : Asked) (whole : Result ℕ Failure) (s : Sight) (set : PortSet) (ps : List Port) (i n : ℕ) (d : Port) → whole ≡ and_so_many n (count_of_ports asked (ports_from s set ps i)) → i < length ps → is_in_set s set (get_or ps i d) ≡ true → asked (get_or ps i d) ≡ Ok true → whole ≡ and_so_many (n + 1) (count_of_ports asked (ports_from s set ps (i + 1)))
count_here asked whole s set ps i n d left l is e = told_here (λ qs. and_so_many n (count_of_ports asked qs)) whole s set ps i d _ left l is (ap (and_so_many n) (count_one_more asked _ _ e) ∙ sym (and_more n 1 (count_of_ports asked (ports_from s set ps (i + 1)))))

pub count_stops : (asked : Asked) (whole : Result ℕ Failure) (s : Sight) (set : PortSet) (ps : List Port) (i n : ℕ) (d : Port) (f : Failure) → whole ≡ and_so_many n (count_of_ports asked (ports_from s set ps i)) → i < length ps → is_in_set s set (get_or ps i d) ≡ true → asked (get_or ps i d) ≡ Err f → whole ≡ Err f
count_stops asked whole s set ps i n d f left l is e = told_here (λ qs. and_so_many n (count_of_ports asked qs)) whole s set ps i d _ left l is (ap (and_so_many n) (count_fails asked _ _ f e))

pub count_over : (asked : Asked) (whole : Result ℕ Failure) (s : Sight) (set : PortSet) (ps : List Port) (i n : ℕ) → whole ≡ and_so_many n (count_of_ports asked (ports_from s set ps i)) → length ps ≤ i → whole ≡ Ok n
count_over asked whole s set ps i n left l =
    let e : n + 0 ≡ n = omega arith in
    told_over (λ qs. and_so_many n (count_of_ports asked qs)) whole s set ps i left l ∙ ap Ok e
