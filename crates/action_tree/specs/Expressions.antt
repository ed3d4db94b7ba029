-- The grammar of expressions: ports, sums and guards.
-- It is written without the limits, which are symbols of its texts.
use Rattle.std.specs.Prelude.{ℕ, zero, suc, Bool, true, false, List, [], ◌++◌, Option, Some, None}
use Rattle.text_tokens.specs.declared.refusal.RefusalKind.{RefusalKind}
use Rattle.text_tokens.specs.declared.refusal.RefusalKind.TheVariants.{TooMany}
use Rattle.text_tokens.specs.Text.{Lexeme}
use Rattle.text_tokens.specs.Reading.{no_limit, deep_at, less}
use Rattle.text_tokens.specs.Grammar.{Symbol, Lang, IsOne, Made, IsOptional, past}
use Rattle.action_tree.specs.declared.expression.PortSet.{PortSet}
use Rattle.action_tree.specs.Trees.{Name, Guard, atom, negation, quantified, tested, comparison, Guards, no_guards, guard_then, Sum, no_terms, term_then, Term, number, own, of_port, count, direction, inner, mod6, PortExpr, bound, at_end, turned, first}
use Rattle.action_tree.specs.Productions.{all_of, any_of}
use Rattle.action_tree.specs.Limits.{most_further}
use Rattle.action_tree.specs.declared.role.Role.{Role}
use Rattle.action_tree.specs.declared.role.Role.TheVariants.{AName, ANumber, OpenSign, CloseSign, DotSign, MinusSign, CompareSign, AtomWord, NotWord, AndWord, OrWord, QuantifierWord, InWord, CountWord, SideWord, InnerWord, Mod6Word, EndWord, TurnWord, FirstWord}
use Rattle.action_tree.specs.Roles.{is_a, is_test, is_set, is_dirterm, is_plus_or_minus, as_name, as_literal, as_dirterm, as_set, as_end, as_atom, as_quantifier, as_test, as_side, as_cmp}

-- a token of a role
abbrev pub IsA : Role → Lang Lexeme
IsA r = IsOne (is_a r) no_limit

-- it opens a level, where so many more may be opened
abbrev pub Opens : Role → ℕ → Lang Lexeme
Opens r n = IsOne (is_a r) (deep_at n)

-- it binds a name, where so many more may be in force
abbrev pub bound_at : ℕ → Lexeme → Option RefusalKind
bound_at zero t = Some TooMany
bound_at (suc left) t = None

abbrev pub Binds : ℕ → Lang Lexeme
Binds left = IsOne (is_a AName) (bound_at left)

-- the symbols of a part, where so many more may come
abbrev pub limited_text : ℕ → List Symbol → List Symbol
limited_text zero xs = past xs
limited_text (suc room) xs = xs

-- whether a minus stands there
abbrev pub IsMinus : Lang Bool
IsMinus = IsOptional false (Made (IsA MinusSign) (λ u. true))

-- a name for the ports of a set, one after the other, and a guard
pub record Selection : Type 0 where
  pub name : Name
  pub set : PortSet
  pub guard : Guard

abbrev pub selection : Lexeme → Lexeme → Guard → Selection
selection v s g = record { name = as_name v; set = as_set s; guard = g }

-- Where n more levels may be opened, and so many more names may be bound.
-- Lists go on with room for so many more elements.
mutual
  pub data IsPort : ℕ → ℕ → List Symbol → PortExpr → Type 0 where
    is_bound : {n left : ℕ} {xs : List Symbol} {v : Lexeme}
        → IsA AName xs v → IsPort n left xs (bound (as_name v))
    is_end : {n left : ℕ} {xs ys : List Symbol} {e d : Lexeme}
        → IsA EndWord xs e
        → IsOne is_dirterm no_limit ys d
        → IsPort n left (xs ++ ys) (at_end (as_end e) (as_dirterm d))
    is_turn : {n left : ℕ} {xs ys zs : List Symbol} {t m : Lexeme} {p : PortExpr}
        → Opens TurnWord n xs t
        → IsPort (less n) left ys p
        → IsA ANumber zs m
        → IsPort n left (xs ++ (ys ++ zs)) (turned p (as_literal m))
    is_first : {n left : ℕ} {xs ys : List Symbol} {t : Lexeme} {c : Selection}
        → IsA FirstWord xs t
        → IsSelection n left ys c
        → IsPort n left (xs ++ ys) (first c.name c.set c.guard)

  -- NAME in set ( expr )
  pub data IsSelection : ℕ → ℕ → List Symbol → Selection → Type 0 where
    is_selection : {n left : ℕ} {vs is ss os es cs : List Symbol} {v i s o c : Lexeme} {g : Guard}
        → Binds left vs v
        → IsA InWord is i
        → IsOne is_set no_limit ss s
        → Opens OpenSign n os o
        → IsExpr (less n) (less left) es g
        → IsA CloseSign cs c
        → IsSelection n left (vs ++ (is ++ (ss ++ (os ++ (es ++ cs))))) (selection v s g)

  pub data IsTerm : ℕ → ℕ → List Symbol → Term → Type 0 where
    is_number : {n left : ℕ} {xs : List Symbol} {m : Lexeme}
        → IsA ANumber xs m → IsTerm n left xs (number (as_literal m))
    is_own : {n left : ℕ} {xs : List Symbol} {v : Lexeme}
        → IsA AName xs v → IsTerm n left xs (own (as_name v))
    is_of_port : {n left : ℕ} {xs ys zs : List Symbol} {d v : Lexeme} {p : PortExpr}
        → IsPort n left xs p
        → IsA DotSign ys d
        → IsA AName zs v
        → IsTerm n left (xs ++ (ys ++ zs)) (of_port p (as_name v))
    is_count : {n left : ℕ} {xs ys : List Symbol} {t : Lexeme} {c : Selection}
        → IsA CountWord xs t
        → IsSelection n left ys c
        → IsTerm n left (xs ++ ys) (count c.name c.set c.guard)
    is_direction : {n left : ℕ} {xs ys : List Symbol} {t : Lexeme} {p : PortExpr}
        → IsA SideWord xs t
        → IsPort n left ys p
        → IsTerm n left (xs ++ ys) (direction (as_side t) p)
    is_inner : {n left : ℕ} {xs : List Symbol} {t : Lexeme} → IsA InnerWord xs t → IsTerm n left xs inner
    is_mod6 : {n left : ℕ} {xs os ys cs : List Symbol} {t o c : Lexeme} {s : Sum}
        → IsA Mod6Word xs t
        → Opens OpenSign n os o
        → IsSum (less n) left ys s
        → IsA CloseSign cs c
        → IsTerm n left (xs ++ (os ++ (ys ++ cs))) (mod6 s)

  pub data IsSum : ℕ → ℕ → List Symbol → Sum → Type 0 where
    is_sum : {n left : ℕ} {xs ys zs : List Symbol} {minus : Bool} {t : Term} {ts : Sum}
        → IsMinus xs minus
        → IsTerm n left ys t
        → IsTerms n left most_further zs ts
        → IsSum n left (xs ++ (ys ++ zs)) (term_then minus t ts)

  -- further terms
  pub data IsTerms : ℕ → ℕ → ℕ → List Symbol → Sum → Type 0 where
    no_more_terms : {n left room : ℕ} → IsTerms n left room [] no_terms
    more_terms : {n left room : ℕ} {xs ys zs : List Symbol} {u : Lexeme} {t : Term} {ts : Sum}
        → IsOne is_plus_or_minus no_limit xs u
        → IsTerm n left ys t
        → IsTerms n left (less room) zs ts
        → IsTerms n left room ((xs ++ limited_text room ys) ++ zs) (term_then (is_a MinusSign u) t ts)

  pub data IsUnit : ℕ → ℕ → List Symbol → Guard → Type 0 where
    is_atom : {n left : ℕ} {xs : List Symbol} {t : Lexeme}
        → IsA AtomWord xs t → IsUnit n left xs (atom (as_atom t))
    is_not : {n left : ℕ} {xs ys : List Symbol} {t : Lexeme} {g : Guard}
        → Opens NotWord n xs t
        → IsUnit (less n) left ys g
        → IsUnit n left (xs ++ ys) (negation g)
    is_parens : {n left : ℕ} {os ys cs : List Symbol} {o c : Lexeme} {g : Guard}
        → Opens OpenSign n os o
        → IsExpr (less n) left ys g
        → IsA CloseSign cs c
        → IsUnit n left (os ++ (ys ++ cs)) g
    is_quantified : {n left : ℕ} {xs ys : List Symbol} {t : Lexeme} {c : Selection}
        → IsA QuantifierWord xs t
        → IsSelection n left ys c
        → IsUnit n left (xs ++ ys) (quantified (as_quantifier t) c.name c.set c.guard)
    is_tested : {n left : ℕ} {xs ys : List Symbol} {t : Lexeme} {p : PortExpr}
        → IsOne is_test no_limit xs t
        → IsPort n left ys p
        → IsUnit n left (xs ++ ys) (tested (as_test t) p)
    is_compared : {n left : ℕ} {xs ys zs : List Symbol} {c : Lexeme} {a b : Sum}
        → IsSum n left xs a
        → IsA CompareSign ys c
        → IsSum n left zs b
        → IsUnit n left (xs ++ (ys ++ zs)) (comparison a (as_cmp c) b)

  pub data IsConj : ℕ → ℕ → List Symbol → Guard → Type 0 where
    is_conj : {n left : ℕ} {xs ys : List Symbol} {g : Guard} {gs : Guards}
        → IsUnit n left xs g
        → IsUnits n left most_further ys gs
        → IsConj n left (xs ++ ys) (all_of g gs)

  -- further elements of an `and`
  pub data IsUnits : ℕ → ℕ → ℕ → List Symbol → Guards → Type 0 where
    no_more_units : {n left room : ℕ} → IsUnits n left room [] no_guards
    more_units : {n left room : ℕ} {xs ys zs : List Symbol} {u : Lexeme} {g : Guard} {gs : Guards}
        → IsA AndWord xs u
        → IsUnit n left ys g
        → IsUnits n left (less room) zs gs
        → IsUnits n left room ((xs ++ limited_text room ys) ++ zs) (guard_then g gs)

  pub data IsExpr : ℕ → ℕ → List Symbol → Guard → Type 0 where
    is_expr : {n left : ℕ} {xs ys : List Symbol} {g : Guard} {gs : Guards}
        → IsConj n left xs g
        → IsConjs n left most_further ys gs
        → IsExpr n left (xs ++ ys) (any_of g gs)

  -- further elements of an `or`
  pub data IsConjs : ℕ → ℕ → ℕ → List Symbol → Guards → Type 0 where
    no_more_conjs : {n left room : ℕ} → IsConjs n left room [] no_guards
    more_conjs : {n left room : ℕ} {xs ys zs : List Symbol} {u : Lexeme} {g : Guard} {gs : Guards}
        → IsA OrWord xs u
        → IsConj n left ys g
        → IsConjs n left (less room) zs gs
        → IsConjs n left room ((xs ++ limited_text room ys) ++ zs) (guard_then g gs)
