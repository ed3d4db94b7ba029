-- The grammar of expressions by the role of the first token, and with which tokens its texts begin.
use Rattle.std.proofs.Common.{◌≡◌, ℕ, zero, suc, Bool, true, false, cond, ◌||◌, List, [], ◌∷◌, ◌++◌, Option, None, refl, sym, ap, subst, ◌∙◌}
use Rattle.std.proofs.lemmas.Bool.{or_right}
use Rattle.text_tokens.specs.declared.refusal.RefusalKind.{RefusalKind}
use Rattle.text_tokens.specs.Text.{Lexeme}
use Rattle.text_tokens.specs.Reading.{no_limit, deep_at, less}
use Rattle.text_tokens.specs.Grammar.{Symbol, symbol, Lang, IsOne, is_one, Then, then, Made, made, is_nothing, of_first, of_second, IsOptional, Limited, in_limit, one_too_many, Repeated, no_more, one_more, BehindSign, Chained}
use Rattle.text_tokens.specs.Lawful.{SomeText, SomeFrom, BeginsWith, Starts, InRole, HasRoles}
use Rattle.text_tokens.proofs.StartsLemmas.{starts_then, starts_as}
use Rattle.text_tokens.proofs.ChoiceLemmas.{starts_roles}
use Rattle.action_tree.specs.Trees.{Guard, atom, negation, quantified, tested, comparison, Guards, guard_then, guards, Sum, term_then, Term, number, own, of_port, count, direction, inner, mod6, PortExpr, bound, at_end, turned, first, Part, terms}
use Rattle.action_tree.specs.Productions.{all_of, any_of}
use Rattle.action_tree.specs.Limits.{most_further}
use Rattle.action_tree.specs.declared.role.Role.{Role}
use Rattle.action_tree.specs.declared.role.Role.TheVariants.{AName, ANumber, OpenSign, CloseSign, DotSign, MinusSign, CompareSign, AtomWord, NotWord, AndWord, OrWord, QuantifierWord, TestWord, FreeWord, PortsWord, InWord, CountWord, SideWord, InnerWord, Mod6Word, EndWord, TurnWord, FirstWord}
use Rattle.action_tree.specs.Roles.{role, is_a, is_test, is_set, is_dirterm, is_plus_or_minus, as_name, as_literal, as_dirterm, as_end, as_atom, as_quantifier, as_test, as_side, as_cmp}
use Rattle.action_tree.specs.Expressions.{IsA, Opens, Binds, limited_text, IsMinus, Selection, selection, IsPort, is_bound, is_end, is_turn, is_first, IsSelection, is_selection, IsTerm, is_number, is_own, is_of_port, is_count, is_direction, is_inner, is_mod6, IsSum, is_sum, IsTerms, no_more_terms, more_terms, IsUnit, is_atom, is_not, is_parens, is_quantified, is_tested, is_compared, IsConj, is_conj, IsUnits, no_more_units, more_units, IsExpr, is_expr, IsConjs, no_more_conjs, more_conjs}
use Rattle.action_tree.specs.ExpressionReaders.{opens_level, level_limit, begins_term, begins_sum, begins_unit, part}
use Rattle.action_tree.proofs.RolesLemmas.{plays, is_in, example, passes, passes_set, passes_dirterm, an_example, an_opening}

-- ---- some text of each family

pub some_port : (n left : ℕ) → SomeText (IsPort n left)
some_port n left = record { text = _; whole = _; is = is_bound (an_example AName) }

pub some_term : (n left : ℕ) → SomeText (IsTerm n left)
some_term n left = record { text = _; whole = _; is = is_number (an_example ANumber) }

pub some_sum : (n left : ℕ) → SomeText (IsSum n left)
some_sum n left = let t = some_term n left in record { text = _; whole = _; is = is_sum (of_second is_nothing) t.is no_more_terms }

pub some_unit : (n left : ℕ) → SomeText (IsUnit n left)
some_unit n left = record { text = _; whole = _; is = is_atom (an_example AtomWord) }

pub some_conj : (n left : ℕ) → SomeText (IsConj n left)
some_conj n left = let g = some_unit n left in record { text = _; whole = _; is = is_conj g.is no_more_units }

pub some_expr : (n left : ℕ) → SomeText (IsExpr n left)
some_expr n left = let g = some_conj n left in record { text = _; whole = _; is = is_expr g.is no_more_conjs }

pub some_selection : (n left : ℕ) → SomeText (IsSelection n left)
some_selection n left = let g = some_expr (less n) (less left) in record { text = _; whole = _; is = is_selection (is_one (example AName) (passes AName)) (an_example InWord) (is_one (example PortsWord) passes_set) (an_opening OpenSign n) g.is (an_example CloseSign) }

-- ---- a text by the role of its first token

module _ {A : Type 0} (n : ℕ) (P : Role → Lang A) where
  abbrev pub Formed : List Symbol → A → Type 0
  Formed xs a = InRole role (level_limit n) P xs a

  at_role : (r : Role) (o : Option RefusalKind) (t : Lexeme) (ys : List Symbol) (a : A) → is_a r t ≡ true → cond (opens_level r) (deep_at n t) None ≡ o → P r (symbol t o ∷ ys) a → Formed (symbol t o ∷ ys) a
  at_role r o t ys a e f is =
      let s = plays r t e in
      let g : level_limit n t ≡ o = ap (λ (q : Role). cond (opens_level q) (deep_at n t) None) s ∙ f in
      record { t = t; more = ys; parts = ap (λ (k : Option RefusalKind). symbol t k ∷ ys) (sym g); is = subst (λ (q : Role). P q (symbol t o ∷ ys) a) (sym s) is }

  pub formed_alone : (r : Role) (xs : List Symbol) (t : Lexeme) (a : A) → IsA r xs t → opens_level r ≡ false → P r xs a → Formed xs a
  formed_alone r xs t a (is_one u e) o is = at_role r None u [] a e (ap (λ (b : Bool). cond b (deep_at n u) None) o) is

  pub formed_more : (r : Role) (xs ys : List Symbol) (t : Lexeme) (a : A) → IsA r xs t → opens_level r ≡ false → P r (xs ++ ys) a → Formed (xs ++ ys) a
  formed_more r xs ys t a (is_one u e) o is = at_role r None u ys a e (ap (λ (b : Bool). cond b (deep_at n u) None) o) is

  pub formed_open : (r : Role) (xs ys : List Symbol) (t : Lexeme) (a : A) → Opens r n xs t → opens_level r ≡ true → P r (xs ++ ys) a → Formed (xs ++ ys) a
  formed_open r xs ys t a (is_one u e) o is = at_role r (deep_at n u) u ys a e (ap (λ (b : Bool). cond b (deep_at n u) None) o) is

-- what is made is made of something
pub made_case : {A B : Type 0} (P : Lang A) (f : A → B) (xs : List Symbol) (X : B → Type 0) → ((a : A) → P xs a → X (f a)) → (b : B) → Made P f xs b → X b
made_case P f xs X g b (made a is) = g a is

-- where so many more may come
pub limited_is : {A : Type 0} (P : Lang A) (room : ℕ) (xs : List Symbol) (a : A) → Limited P room xs a → (ys : List Symbol) × (xs ≡ limited_text room ys) × P ys a
limited_is P room xs a (in_limit {xs = ys} is) = (ys, refl, is)
limited_is P room xs a (one_too_many {xs = ys} is) = (ys, refl, is)

pub is_limited : {A : Type 0} (P : Lang A) (room : ℕ) (ys : List Symbol) (a : A) → P ys a → Limited P room (limited_text room ys) a
is_limited P zero ys a is = one_too_many is
is_limited P (suc room) ys a is = in_limit is

-- ---- ports

abbrev pub PortBy : ℕ → ℕ → Role → Lang PortExpr
PortBy n left AName = Made (IsA AName) (λ v. bound (as_name v))
PortBy n left EndWord = Then (IsA EndWord) (λ e. Made (IsOne is_dirterm no_limit) (λ d. at_end (as_end e) (as_dirterm d)))
PortBy n left TurnWord = Then (Opens TurnWord n) (λ t. Then (IsPort (less n) left) (λ p. Made (IsA ANumber) (λ m. turned p (as_literal m))))
PortBy n left FirstWord = Then (IsA FirstWord) (λ t. Made (IsSelection n left) (λ c. first c.name c.set c.guard))
PortBy n left _ = λ xs p. ⊥

view_port : (n left : ℕ) (xs : List Symbol) (p : PortExpr) → IsPort n left xs p → Formed n (PortBy n left) xs p
view_port n left xs p (is_bound {v = v} o) = formed_alone n (PortBy n left) AName xs v p o refl (made v o)
view_port n left us p (is_end {xs = xs} {ys = ys} {e = e} {d = d} o is) = formed_more n (PortBy n left) EndWord xs ys e p o refl (then e o (made d is))
view_port n left us p (is_turn {xs = xs} {ys = ys} {zs = zs} {t = t} {m = m} {p = q} o is e) = formed_open n (PortBy n left) TurnWord xs (ys ++ zs) t p o refl (then t o (then q is (made m e)))
view_port n left us p (is_first {xs = xs} {ys = ys} {t = t} {c = c} o is) = formed_more n (PortBy n left) FirstWord xs ys t p o refl (then t o (made c is))

port_from : (n left : ℕ) (r : Role) (xs : List Symbol) (p : PortExpr) → PortBy n left r xs p → IsPort n left xs p
port_from n left AName xs p (made t o) = is_bound o
port_from n left EndWord us p (then t o (made d is)) = is_end o is
port_from n left TurnWord us p (then t o (then q is (made m e))) = is_turn o is e
port_from n left FirstWord us p (then t o (made c is)) = is_first o is
port_from n left _ xs p is = absurd is

pub roles_port : (n left : ℕ) → HasRoles role (level_limit n) (PortBy n left) (IsPort n left)
roles_port n left = record { some = some_port n left; view = view_port n left; from = port_from n left }

-- ---- a name for the ports of a set, with a guard

abbrev pub SelectionBy : ℕ → ℕ → Lang Selection
SelectionBy n left = Then (Binds left) (λ v. Then (IsA InWord) (λ i. Then (IsOne is_set no_limit) (λ s. Then (Opens OpenSign n) (λ o. Then (IsExpr (less n) (less left)) (λ g. Made (IsA CloseSign) (λ c. selection v s g))))))

pub selection_from : (n left : ℕ) (xs : List Symbol) (c : Selection) → SelectionBy n left xs c → IsSelection n left xs c
selection_from n left us c (then {xs = vs} v a (then {xs = is} i b (then {xs = ss} s d (then {xs = os} o e (then {xs = gs} {ys = zs} g f m))))) =
    made_case (IsA CloseSign) (λ l. selection v s g) zs (λ c. IsSelection n left (vs ++ (is ++ (ss ++ (os ++ (gs ++ zs))))) c) (λ l h. is_selection a b d e f h) c m

pub selection_to : (n left : ℕ) (xs : List Symbol) (c : Selection) → IsSelection n left xs c → SelectionBy n left xs c
selection_to n left xs c (is_selection {v = v} {i = i} {s = s} {o = o} {c = l} {g = g} a b d e f h) = then v a (then i b (then s d (then o e (then g f (made l h)))))

-- ---- terms

abbrev pub Member : PortExpr → Lang Term
Member p = Then (IsA DotSign) (λ d. Made (IsA AName) (λ v. of_port p (as_name v)))

abbrev pub Named : Lexeme → Lang Term
Named v = IsOptional (own (as_name v)) (Member (bound (as_name v)))

abbrev pub TermBy : ℕ → ℕ → Role → Lang Term
TermBy n left ANumber = Made (IsA ANumber) (λ m. number (as_literal m))
TermBy n left AName = Then (IsA AName) Named
TermBy n left EndWord = Then (IsPort n left) Member
TermBy n left TurnWord = Then (IsPort n left) Member
TermBy n left FirstWord = Then (IsPort n left) Member
TermBy n left CountWord = Then (IsA CountWord) (λ t. Made (IsSelection n left) (λ c. count c.name c.set c.guard))
TermBy n left SideWord = Then (IsA SideWord) (λ t. Made (IsPort n left) (λ p. direction (as_side t) p))
TermBy n left InnerWord = Made (IsA InnerWord) (λ t. inner)
TermBy n left Mod6Word = Then (IsA Mod6Word) (λ t. Then (Opens OpenSign n) (λ o. Then (IsSum (less n) left) (λ s. Made (IsA CloseSign) (λ c. mod6 s))))
TermBy n left _ = λ xs t. ⊥

view_own : (n left : ℕ) (xs : List Symbol) (t : Lexeme) → IsA AName xs t → Formed n (TermBy n left) xs (own (as_name t))
view_own n left xs t (is_one u e) = formed_more n (TermBy n left) AName (symbol u None ∷ []) [] u (own (as_name u)) (is_one u e) refl (then u (is_one u e) (of_second is_nothing))

-- a name before a dot is a port
module _ (n left : ℕ) (ys zs : List Symbol) (d v : Lexeme) (dot : IsA DotSign ys d) (name : IsA AName zs v) where
  named_of : (xs : List Symbol) (p : PortExpr) → Made (IsA AName) (λ t. bound (as_name t)) xs p → TermBy n left AName (xs ++ (ys ++ zs)) (of_port p (as_name v))
  named_of xs p (made t o) = then t o (of_first (then d dot (made v name)))

  of_by : (xs : List Symbol) (p : PortExpr) → IsPort n left xs p → (r : Role) → PortBy n left r xs p → TermBy n left r (xs ++ (ys ++ zs)) (of_port p (as_name v))
  of_by xs p is AName by = named_of xs p by
  of_by xs p is EndWord by = then p is (then d dot (made v name))
  of_by xs p is TurnWord by = then p is (then d dot (made v name))
  of_by xs p is FirstWord by = then p is (then d dot (made v name))
  of_by xs p is _ by = absurd by

  view_of : (xs : List Symbol) (p : PortExpr) → IsPort n left xs p → Formed n (TermBy n left) (xs ++ (ys ++ zs)) (of_port p (as_name v))
  view_of xs p is = let w = view_port n left xs p is in record { t = w.t; more = w.more ++ (ys ++ zs); parts = ap (λ (us : List Symbol). us ++ (ys ++ zs)) w.parts; is = of_by xs p is (role w.t) w.is }

view_term : (n left : ℕ) (xs : List Symbol) (s : Term) → IsTerm n left xs s → Formed n (TermBy n left) xs s
view_term n left xs s (is_number {m = m} o) = formed_alone n (TermBy n left) ANumber xs m s o refl (made m o)
view_term n left xs s (is_own {v = v} o) = view_own n left xs v o
view_term n left us s (is_of_port {xs = xs} {ys = ys} {zs = zs} {d = d} {v = v} {p = p} is dot name) = view_of n left ys zs d v dot name xs p is
view_term n left us s (is_count {xs = xs} {ys = ys} {t = t} {c = c} o is) = formed_more n (TermBy n left) CountWord xs ys t s o refl (then t o (made c is))
view_term n left us s (is_direction {xs = xs} {ys = ys} {t = t} {p = p} o is) = formed_more n (TermBy n left) SideWord xs ys t s o refl (then t o (made p is))
view_term n left xs s (is_inner {t = t} o) = formed_alone n (TermBy n left) InnerWord xs t s o refl (made t o)
view_term n left us s (is_mod6 {xs = xs} {os = os} {ys = ys} {cs = cs} {t = t} {o = o} {c = c} {s = sum} w e is f) = formed_more n (TermBy n left) Mod6Word xs (os ++ (ys ++ cs)) t s w refl (then t w (then o e (then sum is (made c f))))

term_from : (n left : ℕ) (r : Role) (xs : List Symbol) (s : Term) → TermBy n left r xs s → IsTerm n left xs s
term_from n left ANumber xs s (made t o) = is_number o
term_from n left AName us s (then t (is_one u e) (of_second is_nothing)) = is_own (is_one u e)
term_from n left AName us s (then t o (of_first (then d dot (made v name)))) = is_of_port (is_bound o) dot name
term_from n left EndWord us s (then p is (then d dot (made v name))) = is_of_port is dot name
term_from n left TurnWord us s (then p is (then d dot (made v name))) = is_of_port is dot name
term_from n left FirstWord us s (then p is (then d dot (made v name))) = is_of_port is dot name
term_from n left CountWord us s (then t o (made c is)) = is_count o is
term_from n left SideWord us s (then t o (made p is)) = is_direction o is
term_from n left InnerWord xs s (made t o) = is_inner o
term_from n left Mod6Word us s (then t w (then o e (then sum is (made c f)))) = is_mod6 w e is f
term_from n left _ xs s is = absurd is

pub roles_term : (n left : ℕ) → HasRoles role (level_limit n) (TermBy n left) (IsTerm n left)
roles_term n left = record { some = some_term n left; view = view_term n left; from = term_from n left }

term_begins : (n left : ℕ) (r : Role) (xs : List Symbol) (s : Term) → TermBy n left r xs s → begins_term r ≡ true
term_begins n left ANumber xs s is = refl
term_begins n left AName xs s is = refl
term_begins n left EndWord xs s is = refl
term_begins n left TurnWord xs s is = refl
term_begins n left FirstWord xs s is = refl
term_begins n left CountWord xs s is = refl
term_begins n left SideWord xs s is = refl
term_begins n left InnerWord xs s is = refl
term_begins n left Mod6Word xs s is = refl
term_begins n left _ xs s is = absurd is

-- the symbol of a token with which a text begins, by its role
abbrev pub symbol_by : ℕ → Role → Lexeme → Symbol
symbol_by n r t = symbol t (cond (opens_level r) (deep_at n t) None)

term_each : (n left : ℕ) (t : Lexeme) (r : Role) → role t ≡ r → begins_term r ≡ true → SomeFrom (IsTerm n left) (symbol_by n r t)
term_each n left t ANumber e f = record { more = _; whole = _; is = is_number (is_one t (is_in ANumber t e)) }
term_each n left t AName e f = record { more = _; whole = _; is = is_own (is_one t (is_in AName t e)) }
term_each n left t EndWord e f = record { more = _; whole = _; is = is_of_port (is_end (is_one t (is_in EndWord t e)) (is_one (example ANumber) passes_dirterm)) (an_example DotSign) (an_example AName) }
term_each n left t TurnWord e f = let p = some_port (less n) left in record { more = _; whole = _; is = is_of_port (is_turn (is_one t (is_in TurnWord t e)) p.is (an_example ANumber)) (an_example DotSign) (an_example AName) }
term_each n left t FirstWord e f = let c = some_selection n left in record { more = _; whole = _; is = is_of_port (is_first (is_one t (is_in FirstWord t e)) c.is) (an_example DotSign) (an_example AName) }
term_each n left t CountWord e f = let c = some_selection n left in record { more = _; whole = _; is = is_count (is_one t (is_in CountWord t e)) c.is }
term_each n left t SideWord e f = let p = some_port n left in record { more = _; whole = _; is = is_direction (is_one t (is_in SideWord t e)) p.is }
term_each n left t InnerWord e f = record { more = _; whole = _; is = is_inner (is_one t (is_in InnerWord t e)) }
term_each n left t Mod6Word e f = let s = some_sum (less n) left in record { more = _; whole = _; is = is_mod6 (is_one t (is_in Mod6Word t e)) (an_opening OpenSign n) s.is (an_example CloseSign) }
term_each n left t _ e f = absurd cc

pub starts_term : (n left : ℕ) → Starts (IsTerm n left) (λ t. begins_term (role t)) (level_limit n)
starts_term n left = starts_roles role (level_limit n) (TermBy n left) (IsTerm n left) (roles_term n left) (λ t. begins_term (role t)) (λ xs s t is. term_begins n left (role t) xs s is) (λ t e. term_each n left t (role t) refl e)

-- ---- lists

-- the text of a list, of which this was made
pub record MadeOfList {A B : Type 0} (L : Lang (List A)) (whole : List A → B) (xs : List Symbol) (b : B) : Type 0 where
  pub many : List A
  pub same : whole many ≡ b
  pub is : L xs many

-- ---- sums

abbrev pub signed : Lexeme → Term → Part
signed sign t = part (is_a MinusSign sign) t

abbrev pub PartIn : ℕ → ℕ → Lexeme → ℕ → Lang Part
PartIn n left sign room = Limited (Made (IsTerm n left) (signed sign)) room

abbrev pub Terms : ℕ → ℕ → ℕ → Lang (List Part)
Terms n left room = Repeated (λ room. BehindSign is_plus_or_minus (PartIn n left) room) (λ room p. less room) room

abbrev pub Added : ℕ → ℕ → Bool → Lang Sum
Added n left minus = Chained (IsTerm n left) is_plus_or_minus (PartIn n left) (λ room p. less room) (λ t. most_further) (λ t ps. term_then minus t (terms ps))

abbrev pub SumBy : ℕ → ℕ → Lang Sum
SumBy n left = Then IsMinus (Added n left)

terms_from : (n left room : ℕ) (xs : List Symbol) (ps : List Part) → Terms n left room xs ps → IsTerms n left room xs (terms ps)
terms_from n left room xs ps no_more = no_more_terms
terms_from n left room us ps (one_more {ys = zs} {rest = rest} p (then {xs = xs} {ys = ys} u o d) m) =
    let l = limited_is (Made (IsTerm n left) (signed u)) room ys p d in
    subst (λ (ws : List Symbol). IsTerms n left room ((xs ++ ws) ++ zs) (term_then p.minus p.term (terms rest))) (sym l.1)
    (made_case (IsTerm n left) (signed u) l.0 (λ p. IsTerms n left room ((xs ++ limited_text room l.0) ++ zs) (term_then p.minus p.term (terms rest))) (λ t is. more_terms o is (terms_from n left (less room) zs rest m)) p l.2)

terms_to : (n left room : ℕ) (xs : List Symbol) (s : Sum) → IsTerms n left room xs s → MadeOfList (Terms n left room) terms xs s
terms_to n left room xs s no_more_terms = record { many = []; same = refl; is = no_more }
terms_to n left room us s (more_terms {xs = xs} {ys = ys} {zs = zs} {u = u} {t = t} {ts = ts} o is m) =
    let k = terms_to n left (less room) zs ts m in
    record { many = signed u t ∷ k.many; same = ap (λ (rest : Sum). term_then (is_a MinusSign u) t rest) k.same; is = one_more (signed u t) (then u o (is_limited (Made (IsTerm n left) (signed u)) room ys (signed u t) (made t is))) k.is }

pub sum_from : (n left : ℕ) (xs : List Symbol) (s : Sum) → SumBy n left xs s → IsSum n left xs s
sum_from n left us s (then {xs = xs} minus sign (then {xs = ys} {ys = zs} t is m)) =
    made_case (Terms n left most_further) (λ ps. term_then minus t (terms ps)) zs (λ s. IsSum n left (xs ++ (ys ++ zs)) s) (λ ps m. is_sum sign is (terms_from n left most_further zs ps m)) s m

pub sum_to : (n left : ℕ) (xs : List Symbol) (s : Sum) → IsSum n left xs s → SumBy n left xs s
sum_to n left us s (is_sum {xs = xs} {ys = ys} {zs = zs} {minus = minus} {t = t} {ts = ts} sign is m) =
    let k = terms_to n left most_further zs ts m in
    subst (λ (rest : Sum). SumBy n left (xs ++ (ys ++ zs)) (term_then minus t rest)) k.same (then minus sign (then t is (made k.many k.is)))

-- what begins a term begins a sum, and a minus does
term_sum : (r : Role) → begins_term r ≡ true → begins_sum r ≡ true
term_sum MinusSign e = refl
term_sum _ e = e

begins_more : (starts : Lexeme → Bool) (over : Lexeme → Option RefusalKind) (xs ys : List Symbol) → BeginsWith starts over xs → BeginsWith starts over (xs ++ ys)
begins_more starts over xs ys b = record { t = b.t; more = b.more ++ ys; parts = ap (λ (l : List Symbol). l ++ ys) b.parts; passes = b.passes }

abbrev SumBegins : ℕ → List Symbol → Type 0
SumBegins n xs = BeginsWith (λ t. begins_sum (role t)) (level_limit n) xs

minus_begins : (n : ℕ) (xs ys : List Symbol) (u : Lexeme) → IsA MinusSign xs u → SumBegins n (xs ++ ys)
minus_begins n xs ys u (is_one v e) =
    let s = plays MinusSign v e in
    record { t = v; more = ys; parts = ap (λ (r : Role). symbol_by n r v ∷ ys) (sym s); passes = ap begins_sum s }

sign_begins : (n : ℕ) (xs ys : List Symbol) (minus : Bool) → IsMinus xs minus → BeginsWith (λ t. begins_term (role t)) (level_limit n) ys → SumBegins n (xs ++ ys)
sign_begins n xs ys minus (of_first (made u o)) b = minus_begins n xs ys u o
sign_begins n xs ys minus (of_second is_nothing) b = record { t = b.t; more = b.more; parts = b.parts; passes = term_sum (role b.t) b.passes }

sum_begins : (n left : ℕ) (xs : List Symbol) (s : Sum) → IsSum n left xs s → SumBegins n xs
sum_begins n left us s (is_sum {xs = xs} {ys = ys} {zs = zs} {minus = minus} {t = t} sign is m) = sign_begins n xs (ys ++ zs) minus sign (begins_more (λ t. begins_term (role t)) (level_limit n) ys zs ((starts_term n left).begins ys t is))

sum_with : (n left : ℕ) (x : Symbol) → SomeFrom (IsTerm n left) x → SomeFrom (IsSum n left) x
sum_with n left x f = record { more = _; whole = _; is = is_sum (of_second is_nothing) f.is no_more_terms }

sum_each : (n left : ℕ) (t : Lexeme) (r : Role) → role t ≡ r → begins_sum r ≡ true → SomeFrom (IsSum n left) (symbol_by n r t)
sum_each n left t MinusSign e f = let s = some_term n left in record { more = _; whole = _; is = is_sum (of_first (made t (is_one t (is_in MinusSign t e)))) s.is no_more_terms }
sum_each n left t r e f = sum_with n left (symbol_by n r t) (term_each n left t r e f)

-- ---- units

abbrev pub Compared : ℕ → ℕ → Lang Guard
Compared n left = Then (IsSum n left) (λ a. Then (IsA CompareSign) (λ c. Made (IsSum n left) (λ b. comparison a (as_cmp c) b)))

abbrev pub Tested : ℕ → ℕ → Lang Guard
Tested n left = Then (IsOne is_test no_limit) (λ t. Made (IsPort n left) (λ p. tested (as_test t) p))

-- the texts of a grammar, or none
abbrev pub OrNone : {A : Type 0} → Bool → Lang A → Lang A
OrNone true P = P
OrNone false P = λ xs a. ⊥

abbrev pub UnitBy : ℕ → ℕ → Role → Lang Guard
UnitBy n left AtomWord = Made (IsA AtomWord) (λ t. atom (as_atom t))
UnitBy n left NotWord = Then (Opens NotWord n) (λ t. Made (IsUnit (less n) left) (λ g. negation g))
UnitBy n left OpenSign = Then (Opens OpenSign n) (λ o. Then (IsExpr (less n) left) (λ g. Made (IsA CloseSign) (λ c. g)))
UnitBy n left QuantifierWord = Then (IsA QuantifierWord) (λ t. Made (IsSelection n left) (λ c. quantified (as_quantifier t) c.name c.set c.guard))
UnitBy n left TestWord = Tested n left
UnitBy n left FreeWord = Tested n left
UnitBy n left r = OrNone (begins_sum r) (Compared n left)

compared_by : (n left : ℕ) (r : Role) (xs : List Symbol) (g : Guard) → begins_sum r ≡ true → Compared n left xs g → UnitBy n left r xs g
compared_by n left ANumber xs g e is = is
compared_by n left AName xs g e is = is
compared_by n left MinusSign xs g e is = is
compared_by n left EndWord xs g e is = is
compared_by n left TurnWord xs g e is = is
compared_by n left FirstWord xs g e is = is
compared_by n left CountWord xs g e is = is
compared_by n left SideWord xs g e is = is
compared_by n left InnerWord xs g e is = is
compared_by n left Mod6Word xs g e is = is
compared_by n left _ xs g e is = absurd cc

view_unit : (n left : ℕ) (xs : List Symbol) (g : Guard) → IsUnit n left xs g → Formed n (UnitBy n left) xs g
view_unit n left xs g (is_atom {t = t} o) = formed_alone n (UnitBy n left) AtomWord xs t g o refl (made t o)
view_unit n left us g (is_not {xs = xs} {ys = ys} {t = t} {g = h} o is) = formed_open n (UnitBy n left) NotWord xs ys t g o refl (then t o (made h is))
view_unit n left us g (is_parens {os = os} {ys = ys} {cs = cs} {o = o} {c = c} e is f) = formed_open n (UnitBy n left) OpenSign os (ys ++ cs) o g e refl (then o e (then g is (made c f)))
view_unit n left us g (is_quantified {xs = xs} {ys = ys} {t = t} {c = c} o is) = formed_more n (UnitBy n left) QuantifierWord xs ys t g o refl (then t o (made c is))
view_unit n left us g (is_tested {xs = xs} {ys = ys} {t = t} {p = p} o is) = view_tested n left xs ys t g o (then t o (made p is))
  where
    view_tested : (n left : ℕ) (xs ys : List Symbol) (t : Lexeme) (g : Guard) → IsOne is_test no_limit xs t → Tested n left (xs ++ ys) g → Formed n (UnitBy n left) (xs ++ ys) g
    view_tested n left xs ys t g (is_one u e) is = by (is_a TestWord u) refl e
      where
        by : (b : Bool) → is_a TestWord u ≡ b → (b || is_a FreeWord u) ≡ true → Formed n (UnitBy n left) (xs ++ ys) g
        by true f e = formed_more n (UnitBy n left) TestWord xs ys u g (is_one u f) refl is
        by false f e = formed_more n (UnitBy n left) FreeWord xs ys u g (is_one u e) refl is
view_unit n left us g (is_compared {xs = xs} {ys = ys} {zs = zs} {c = c} {a = a} {b = b} is o other) =
    let w = sum_begins n left xs a is in
    record { t = w.t; more = w.more ++ (ys ++ zs); parts = ap (λ (l : List Symbol). l ++ (ys ++ zs)) w.parts; is = compared_by n left (role w.t) (xs ++ (ys ++ zs)) g w.passes (then a is (then c o (made b other))) }

unit_from : (n left : ℕ) (r : Role) (xs : List Symbol) (g : Guard) → UnitBy n left r xs g → IsUnit n left xs g
unit_from n left AtomWord xs g (made t o) = is_atom o
unit_from n left NotWord us g (then t o (made h is)) = is_not o is
unit_from n left OpenSign us g (then {xs = os} o e (then {xs = ys} {ys = cs} h is m)) = made_case (IsA CloseSign) (λ c. h) cs (λ g. IsUnit n left (os ++ (ys ++ cs)) g) (λ c f. is_parens e is f) g m
unit_from n left QuantifierWord us g (then t o (made c is)) = is_quantified o is
unit_from n left TestWord us g (then t o (made p is)) = is_tested o is
unit_from n left FreeWord us g (then t o (made p is)) = is_tested o is
unit_from n left r xs g is = from_compared (begins_sum r) xs g is
  where
    from_compared : (b : Bool) (xs : List Symbol) (g : Guard) → OrNone b (Compared n left) xs g → IsUnit n left xs g
    from_compared true us g (then {xs = xs} a is (then {xs = ys} {ys = zs} c o m)) = made_case (IsSum n left) (λ b. comparison a (as_cmp c) b) zs (λ g. IsUnit n left (xs ++ (ys ++ zs)) g) (λ b other. is_compared is o other) g m
    from_compared false xs g is = absurd is

pub roles_unit : (n left : ℕ) → HasRoles role (level_limit n) (UnitBy n left) (IsUnit n left)
roles_unit n left = record { some = some_unit n left; view = view_unit n left; from = unit_from n left }

unit_begins : (n left : ℕ) (r : Role) (xs : List Symbol) (g : Guard) → UnitBy n left r xs g → begins_unit r ≡ true
unit_begins n left AtomWord xs g is = refl
unit_begins n left NotWord xs g is = refl
unit_begins n left OpenSign xs g is = refl
unit_begins n left QuantifierWord xs g is = refl
unit_begins n left TestWord xs g is = refl
unit_begins n left FreeWord xs g is = refl
unit_begins n left r xs g is = any_sum (begins_sum r) is
  where
    any_sum : (b : Bool) → OrNone b (Compared n left) xs g → b ≡ true
    any_sum true is = refl
    any_sum false is = absurd is

-- a comparison with what a sum begins with
compared_with : (n left : ℕ) (x : Symbol) → SomeFrom (IsSum n left) x → SomeFrom (IsUnit n left) x
compared_with n left x f = let s = some_sum n left in record { more = _; whole = _; is = is_compared f.is (an_example CompareSign) s.is }

test_from : (n left : ℕ) (t : Lexeme) → is_test t ≡ true → SomeFrom (IsUnit n left) (symbol t None)
test_from n left t e = let p = some_port n left in record { more = _; whole = _; is = is_tested (is_one t e) p.is }

unit_each : (n left : ℕ) (t : Lexeme) (r : Role) → role t ≡ r → begins_unit r ≡ true → SomeFrom (IsUnit n left) (symbol_by n r t)
unit_each n left t AtomWord e f = record { more = _; whole = _; is = is_atom (is_one t (is_in AtomWord t e)) }
unit_each n left t NotWord e f = let g = some_unit (less n) left in record { more = _; whole = _; is = is_not (is_one t (is_in NotWord t e)) g.is }
unit_each n left t OpenSign e f = let g = some_expr (less n) left in record { more = _; whole = _; is = is_parens (is_one t (is_in OpenSign t e)) g.is (an_example CloseSign) }
unit_each n left t QuantifierWord e f = let c = some_selection n left in record { more = _; whole = _; is = is_quantified (is_one t (is_in QuantifierWord t e)) c.is }
unit_each n left t TestWord e f = test_from n left t (ap (λ (b : Bool). b || is_a FreeWord t) (is_in TestWord t e))
unit_each n left t FreeWord e f = test_from n left t (or_right (is_a TestWord t) (is_a FreeWord t) (is_in FreeWord t e))
unit_each n left t r e f = compared_with n left (symbol_by n r t) (sum_each n left t r e f)

pub starts_unit : (n left : ℕ) → Starts (IsUnit n left) (λ t. begins_unit (role t)) (level_limit n)
starts_unit n left = starts_roles role (level_limit n) (UnitBy n left) (IsUnit n left) (roles_unit n left) (λ t. begins_unit (role t)) (λ xs g t is. unit_begins n left (role t) xs g is) (λ t e. unit_each n left t (role t) refl e)

-- ---- elements of an `and`

abbrev pub UnitIn : ℕ → ℕ → Lexeme → ℕ → Lang Guard
UnitIn n left sign room = Limited (IsUnit n left) room

abbrev pub Units : ℕ → ℕ → ℕ → Lang (List Guard)
Units n left room = Repeated (λ room. BehindSign (is_a AndWord) (UnitIn n left) room) (λ room g. less room) room

abbrev pub ConjBy : ℕ → ℕ → Lang Guard
ConjBy n left = Chained (IsUnit n left) (is_a AndWord) (UnitIn n left) (λ room g. less room) (λ g. most_further) (λ g gs. all_of g (guards gs))

units_from : (n left room : ℕ) (xs : List Symbol) (gs : List Guard) → Units n left room xs gs → IsUnits n left room xs (guards gs)
units_from n left room xs gs no_more = no_more_units
units_from n left room us gs (one_more {ys = zs} {rest = rest} g (then {xs = xs} {ys = ys} u o c) m) =
    let l = limited_is (IsUnit n left) room ys g c in
    subst (λ (ws : List Symbol). IsUnits n left room ((xs ++ ws) ++ zs) (guard_then g (guards rest))) (sym l.1) (more_units o l.2 (units_from n left (less room) zs rest m))

units_to : (n left room : ℕ) (xs : List Symbol) (s : Guards) → IsUnits n left room xs s → MadeOfList (Units n left room) guards xs s
units_to n left room xs s no_more_units = record { many = []; same = refl; is = no_more }
units_to n left room us s (more_units {xs = xs} {ys = ys} {zs = zs} {u = u} {g = g} {gs = gs} o is m) =
    let k = units_to n left (less room) zs gs m in
    record { many = g ∷ k.many; same = ap (λ (rest : Guards). guard_then g rest) k.same; is = one_more g (then u o (is_limited (IsUnit n left) room ys g is)) k.is }

pub conj_from : (n left : ℕ) (xs : List Symbol) (e : Guard) → ConjBy n left xs e → IsConj n left xs e
conj_from n left us e (then {xs = xs} {ys = ys} g is m) = made_case (Units n left most_further) (λ gs. all_of g (guards gs)) ys (λ e. IsConj n left (xs ++ ys) e) (λ gs m. is_conj is (units_from n left most_further ys gs m)) e m

pub conj_to : (n left : ℕ) (xs : List Symbol) (e : Guard) → IsConj n left xs e → ConjBy n left xs e
conj_to n left us e (is_conj {xs = xs} {ys = ys} {g = g} {gs = gs} is m) =
    let k = units_to n left most_further ys gs m in
    subst (λ (rest : Guards). ConjBy n left (xs ++ ys) (all_of g rest)) k.same (then g is (made k.many k.is))

pub starts_conj : (n left : ℕ) → Starts (IsConj n left) (λ t. begins_unit (role t)) (level_limit n)
starts_conj n left = starts_as (ConjBy n left) (IsConj n left) (λ t. begins_unit (role t)) (level_limit n) (conj_from n left) (conj_to n left)
    (starts_then (IsUnit n left) _ (λ t. begins_unit (role t)) (level_limit n) (starts_unit n left) (λ g. record { text = []; whole = g; is = made [] no_more }))

-- ---- elements of an `or`

abbrev pub ConjIn : ℕ → ℕ → Lexeme → ℕ → Lang Guard
ConjIn n left sign room = Limited (IsConj n left) room

abbrev pub Conjs : ℕ → ℕ → ℕ → Lang (List Guard)
Conjs n left room = Repeated (λ room. BehindSign (is_a OrWord) (ConjIn n left) room) (λ room g. less room) room

abbrev pub ExprBy : ℕ → ℕ → Lang Guard
ExprBy n left = Chained (IsConj n left) (is_a OrWord) (ConjIn n left) (λ room g. less room) (λ g. most_further) (λ g gs. any_of g (guards gs))

conjs_from : (n left room : ℕ) (xs : List Symbol) (gs : List Guard) → Conjs n left room xs gs → IsConjs n left room xs (guards gs)
conjs_from n left room xs gs no_more = no_more_conjs
conjs_from n left room us gs (one_more {ys = zs} {rest = rest} g (then {xs = xs} {ys = ys} u o c) m) =
    let l = limited_is (IsConj n left) room ys g c in
    subst (λ (ws : List Symbol). IsConjs n left room ((xs ++ ws) ++ zs) (guard_then g (guards rest))) (sym l.1) (more_conjs o l.2 (conjs_from n left (less room) zs rest m))

conjs_to : (n left room : ℕ) (xs : List Symbol) (s : Guards) → IsConjs n left room xs s → MadeOfList (Conjs n left room) guards xs s
conjs_to n left room xs s no_more_conjs = record { many = []; same = refl; is = no_more }
conjs_to n left room us s (more_conjs {xs = xs} {ys = ys} {zs = zs} {u = u} {g = g} {gs = gs} o is m) =
    let k = conjs_to n left (less room) zs gs m in
    record { many = g ∷ k.many; same = ap (λ (rest : Guards). guard_then g rest) k.same; is = one_more g (then u o (is_limited (IsConj n left) room ys g is)) k.is }

pub expr_from : (n left : ℕ) (xs : List Symbol) (e : Guard) → ExprBy n left xs e → IsExpr n left xs e
expr_from n left us e (then {xs = xs} {ys = ys} g is m) = made_case (Conjs n left most_further) (λ gs. any_of g (guards gs)) ys (λ e. IsExpr n left (xs ++ ys) e) (λ gs m. is_expr is (conjs_from n left most_further ys gs m)) e m

pub expr_to : (n left : ℕ) (xs : List Symbol) (e : Guard) → IsExpr n left xs e → ExprBy n left xs e
expr_to n left us e (is_expr {xs = xs} {ys = ys} {g = g} {gs = gs} is m) =
    let k = conjs_to n left most_further ys gs m in
    subst (λ (rest : Guards). ExprBy n left (xs ++ ys) (any_of g rest)) k.same (then g is (made k.many k.is))
