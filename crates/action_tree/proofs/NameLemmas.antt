-- Which tokens are names, and which are numbers.
use Rattle.std.proofs.Common.{◌≡◌, ℕ, Bool, true, false, cond, ◌&&◌, ◌||◌, List, [], ◌∷◌, refl, map}
use Rattle.std.proofs.lemmas.Bool.{not-true}
use Rattle.std.specs.Prelude.{not}
use Rattle.std.specs.List.{list_all, list_any}
use Rattle.std.specs.Str.{bytes_eq}
use Rattle.text_tokens.specs.declared.token.TokenKind.{TokenKind}
use Rattle.text_tokens.specs.declared.token.TokenKind.TheVariants.{Word, Number, Sign}
use Rattle.text_tokens.specs.Text.{Lexeme}
use Rattle.text_tokens.specs.Cursor.{same_kind, is_kind}
use Rattle.action_tree.specs.Words.{is_reserved}
use Rattle.action_tree.specs.declared.role.Role.{Role}
use Rattle.action_tree.specs.declared.role.Role.TheVariants.{AName, ANumber, Foreign}
use Rattle.action_tree.specs.Roles.{Entry, look_up, words, signs, role_by, role, same_role, is_a}
use Rattle.action_tree.specs.GrammarLaws.{NamesAreNotReserved}
use Rattle.action_tree.proofs.Conditions.{left_of, right_of}

-- no entry is of the role
abbrev pub Lacks : Role → List (Entry Role) → Type 0
Lacks r es = list_all (λ e. not (same_role e.value r)) es ≡ true

pub lacking : (r d : Role) (es : List (Entry Role)) (text : List ℕ) → same_role d r ≡ false → Lacks r es → same_role (look_up d es text) r ≡ false
lacking r d [] text n l = n
lacking r d (e ∷ es) text n l = by (bytes_eq text e.text) (lacking r d es text n (right_of _ _ l))
  where
    by : (b : Bool) → same_role (look_up d es text) r ≡ false → same_role (cond b e.value (look_up d es text)) r ≡ false
    by true more = not-true (same_role e.value r) (left_of _ _ l)
    by false more = more

named : (es : List (Entry Role)) (text : List ℕ) → Lacks AName es → same_role (look_up AName es text) AName ≡ not (list_any (bytes_eq text) (map (λ e. e.text) es))
unfolding same_role
named [] text l = refl
named (e ∷ es) text l = by (bytes_eq text e.text) (named es text (right_of _ _ l))
  where
    by : (b : Bool) → same_role (look_up AName es text) AName ≡ not (list_any (bytes_eq text) (map (λ e. e.text) es)) → same_role (cond b e.value (look_up AName es text)) AName ≡ not (b || list_any (bytes_eq text) (map (λ e. e.text) es))
    by true more = not-true (same_role e.value AName) (left_of _ _ l)
    by false more = more

names_by : (kind : TokenKind) (text : List ℕ) → same_role (role_by kind text) AName ≡ (same_kind kind Word && not (is_reserved text))
unfolding same_role same_kind
names_by Word text = named words text refl
names_by Number text = refl
names_by Sign text = lacking AName Foreign signs text refl refl

pub names : NamesAreNotReserved
unfolding role
names t = names_by t.kind t.text

-- a number is a token of that kind
numbers_by : (kind : TokenKind) (text : List ℕ) → same_role (role_by kind text) ANumber ≡ same_kind kind Number
unfolding same_role same_kind
numbers_by Word text = lacking ANumber AName words text refl refl
numbers_by Number text = refl
numbers_by Sign text = lacking ANumber Foreign signs text refl refl

pub numbers : (t : Lexeme) → is_a ANumber t ≡ is_kind Number t
unfolding role
numbers t = numbers_by t.kind t.text
