-- Names in force, of which the last one stands for one port after another.
use Rattle.std.proofs.Common.{◌≡◌, ◌<◌, ◌∙◌, true, [], ◌∷◌, length, sym, ap, subst, arith}
use Rattle.std.specs.Prelude.{Result, Bool}
use Rattle.std.proofs.lemmas.List.{length-append}
use Rattle.amoebot_state.specs.declared.bot.Port.{Port}
use Rattle.amoebot_state.specs.declared.verdict.Failure.{Failure}
use Rattle.model_ops.specs.Sights.{Sight}
use Rattle.action_tree.specs.declared.word.Word.{Word}
use Rattle.action_tree.specs.declared.expression.Guard as code
use Rattle.action_tree.specs.Places.{guard_placed}
use Rattle.action_tree.specs.Views.{name_of, guard_of}
use Rattle.action_check.specs.Rules.{GuardKept}
use Rattle.action_tree.specs.Scopes.{Scope}
use Rattle.action_meaning.specs.Names.{Names, Bound, bind}
use Rattle.action_meaning.specs.Values.{guard_value}
use Rattle.action_eval.specs.Known.{scope_of}
use Rattle.action_eval.specs.UnderNames.{MayAsk, IsUnder, guard_at}
use Rattle.action_eval.proofs.RunningLemmas.{scope_of_bound}

pub has_last : (xs : Names) (name : Word) (inner : Names) → IsUnder xs name inner → 0 < length inner.bound
has_last xs name inner under =
    let b : Bound = record { text = name.text.bytes; port = under.port } in
    let few = ap (λ (ys : Names). length ys.bound) under.bound in
    omega (arith, few, length-append xs.bound (b ∷ []))

pub kept_under : (xs : Names) (name : Word) (guard : code.Guard) (inner : Names) (p : Port) → MayAsk xs name guard → inner ≡ bind xs (name_of name) p → GuardKept (scope_of inner) (guard_of guard)
kept_under xs name guard inner p may is =
    let P : Scope → Type 0 = λ sc. GuardKept sc (guard_of guard) in
    subst P (sym (ap scope_of is ∙ scope_of_bound xs (name_of name) p)) may.kept

pub placed_under : (xs : Names) (name : Word) (guard : code.Guard) (inner : Names) (p : Port) → MayAsk xs name guard → inner ≡ bind xs (name_of name) p → guard_placed guard (scope_of inner) ≡ true
placed_under xs name guard inner p may is =
    let P : Scope → Type 0 = λ sc. guard_placed guard sc ≡ true in
    subst P (sym (ap scope_of is ∙ scope_of_bound xs (name_of name) p)) may.placed

-- what was asked under the names is what is asked at the port
pub asked_at : (s : Sight) (xs : Names) (name : Word) (guard : code.Guard) (inner : Names) (p : Port) (r : Result Bool Failure) → inner ≡ bind xs (name_of name) p → r ≡ guard_value s inner (guard_of guard) → guard_at s xs name guard p ≡ r
asked_at s xs name guard inner p r is e = sym (e ∙ ap (λ ys. guard_value s ys (guard_of guard)) is)
