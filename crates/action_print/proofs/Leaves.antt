-- Single tokens of a canonical text, by their roles.
use Rattle.std.proofs.Common.{◌≡◌, ℕ, suc, ◌<◌, Bool, true, false, List, [], ◌∷◌, Option, None, length, codes, refl, ap, ◌∙◌, arith}
use Rattle.std.specs.Prelude.{◌&&◌, ◌^◌, decimal, not}
use Rattle.std.specs.List.{list_all}
use Rattle.std.proofs.lemmas.Bool.{ltb-true, or_left, or_right, and_parts}
use Rattle.amoebot_state.specs.declared.bot.End.{End}
use Rattle.amoebot_state.specs.declared.bot.End.TheVariants.{Head, Tail}
use Rattle.amoebot_state.specs.Ports.{end_word}
use Rattle.text_tokens.specs.declared.token.TokenKind.TheVariants.{Word, Sign}
use Rattle.text_tokens.specs.declared.refusal.RefusalKind.{RefusalKind}
use Rattle.text_tokens.specs.Text.{is_letter, is_word_byte, is_sign, Lexeme}
use Rattle.text_tokens.specs.Cursor.{same_kind}
use Rattle.text_tokens.specs.Reading.{no_limit, deep_at}
use Rattle.text_tokens.specs.Grammar.{IsOne, made, is_nothing, of_first, of_second}
use Rattle.action_tree.specs.declared.expression.PortSet.{PortSet}
use Rattle.action_tree.specs.declared.expression.PortSet.TheVariants.{Ports, Free}
use Rattle.action_tree.specs.declared.expression.Cmp.{Cmp}
use Rattle.action_tree.specs.declared.expression.Cmp.TheVariants.{Eq, Ne, Lt, Le, Gt, Ge}
use Rattle.action_tree.specs.Trees.{Name, Literal, DirTerm, fixed, held, Atom, always, never, contracted, expanded, Quantifier, any, all, PortTest, linked, free, at_head, peer_expanded, peer_head, Side, own_side, peer_side, PortMove, expand, push, pull}
use Rattle.action_tree.specs.Lines.{bare_name, bare_literal, bare_dirterm}
use Rattle.action_tree.specs.Words.{is_word, is_reserved, is_name, has_few_digits}
use Rattle.action_tree.specs.Writable.{is_writable_dirterm}
use Rattle.action_tree.specs.declared.role.Role.{Role}
use Rattle.action_tree.specs.declared.role.Role.TheVariants.{AName, ANumber, PlusSign, MinusSign, CompareSign, AtomWord, QuantifierWord, TestWord, FreeWord, PortsWord, SideWord, EndWord, ThroughWord, SwitchWord}
use Rattle.action_tree.specs.Roles as roles
use Rattle.action_tree.specs.Roles.{role_by, role, same_role, is_a, is_test, is_set, is_plus_or_minus, as_name, as_literal, as_dirterm, as_set, as_switch, as_end, as_atom, as_quantifier, as_test, as_side, as_port_move, as_cmp, switch_by}
use Rattle.action_tree.specs.Expressions.{IsA, bound_at, IsMinus}
use Rattle.action_tree.proofs.NameLemmas.{names}
use Rattle.action_tree.proofs.RolesLemmas.{plays, is_in}
use Rattle.action_print.specs.Canon.{atom_word, quantifier_word, set_word, test_word, cmp_sign, side_word, move_word, literal_word, dirterm_word, first_sign, further_sign}
use Rattle.text_tokens.proofs.PrintedTokens.{kind_of, IsOneToken, word_is_token, sign_is_token, word_kind}
use Rattle.text_tokens.proofs.LinesLemmas.{Rereads, rereads_by, rereads_none, IsSpelled, rereads_one, number_token, number_kind, spelled_number}

-- ---- words and signs

pub word_token : (w : List ℕ) → is_word w ≡ true → IsOneToken w
word_token [] e = absurd cc
word_token (b ∷ bytes) e =
    let p = and_parts (is_letter b && list_all is_word_byte bytes) _ e in
    let q = and_parts (is_letter b) (list_all is_word_byte bytes) p.0 in
    word_is_token b bytes q.0 q.1 (omega (arith, ltb-true (length bytes) 24 p.1))

role_is : (w : List ℕ) (t : Lexeme) → IsSpelled w t → role t ≡ role_by (kind_of w) w
unfolding role
role_is w t s = ap (λ k. role_by k t.text) s.kind ∙ ap (role_by (kind_of w)) s.text

module _ {over : Lexeme → Option RefusalKind} (fine : (t : Lexeme) → over t ≡ None) (r : Role) (w : List ℕ) (plays : role_by (kind_of w) w ≡ r) where
  a_token : IsOneToken w → Rereads (IsOne (is_a r) over) (IsSpelled w) (w ∷ [])
  a_token is = rereads_one w is (λ t s. is_in r t (role_is w t s ∙ plays)) fine

  pub a_word : is_word w ≡ true → Rereads (IsOne (is_a r) over) (IsSpelled w) (w ∷ [])
  a_word e = a_token (word_token w e)

  pub a_sign : is_sign w ≡ true → kind_of w ≡ Sign → Rereads (IsOne (is_a r) over) (IsSpelled w) (w ∷ [])
  a_sign e k = a_token (sign_is_token w e k)

pub free_of : (t : Lexeme) → no_limit t ≡ None
free_of t = refl

pub opens_fine : (n : ℕ) (t : Lexeme) → deep_at (suc n) t ≡ None
opens_fine n t = refl

pub binds_fine : (left : ℕ) (t : Lexeme) → bound_at (suc left) t ≡ None
binds_fine left t = refl

-- ---- names

name_kind : (w : List ℕ) → is_word w ≡ true → kind_of w ≡ Word
name_kind [] e = absurd cc
name_kind (b ∷ bytes) e =
    let p = and_parts (is_letter b && list_all is_word_byte bytes) _ e in
    word_kind b bytes (and_parts (is_letter b) (list_all is_word_byte bytes) p.0).0

pub name_word : (w : List ℕ) → is_name w ≡ true → is_word w ≡ true
name_word w e = (and_parts (is_word w) (not (is_reserved w)) e).0

name_role : (w : List ℕ) → is_name w ≡ true → (t : Lexeme) → IsSpelled w t → role t ≡ AName
unfolding same_kind
name_role w e t s =
    let p = and_parts (is_word w) (not (is_reserved w)) e in
    plays AName t (names t ∙ ap (λ k. same_kind k Word && not (is_reserved t.text)) (s.kind ∙ name_kind w p.0) ∙ ap (λ (bs : List ℕ). not (is_reserved bs)) s.text ∙ p.1)

abbrev pub IsNameOf : Name → Lexeme → Type 0
IsNameOf v t = bare_name (as_name t) ≡ bare_name v

pub a_name : {over : Lexeme → Option RefusalKind} → ((t : Lexeme) → over t ≡ None) → (v : Name) → is_name v.text ≡ true → Rereads (IsOne (is_a AName) over) (IsNameOf v) (v.text ∷ [])
a_name fine v e =
    rereads_by (λ t. t) (λ xs t p. p) (λ t s. ap (λ (bs : List ℕ). record { text = bs; line = 0 }) s.text) (rereads_one v.text (word_token v.text (name_word v.text e)) (λ t s. is_in AName t (name_role v.text e t s)) fine)

-- ---- numbers

small : (n : ℕ) → has_few_digits n ≡ true → n < 10 ^ 9
small n e = ltb-true n (10 ^ 9) e

number_plays : (n : ℕ) → has_few_digits n ≡ true → role_by (kind_of (decimal n)) (decimal n) ≡ ANumber
number_plays n e = ap (λ k. role_by k (decimal n)) (number_kind n (small n e))

abbrev pub IsLiteralOf : Literal → Lexeme → Type 0
IsLiteralOf m t = bare_literal (as_literal t) ≡ bare_literal m

spelled_literal : (m : Literal) → has_few_digits m.value ≡ true → (t : Lexeme) → IsSpelled (decimal m.value) t → IsLiteralOf m t
spelled_literal m e t s = ap (λ (n : ℕ). record { value = n; line = 0 }) (spelled_number m.value (small m.value e) t s).1

pub a_number : (m : Literal) → has_few_digits m.value ≡ true → Rereads (IsA ANumber) (IsLiteralOf m) (literal_word m ∷ [])
a_number m e = rereads_by (λ t. t) (λ xs t p. p) (λ t s. spelled_literal m e t s) (a_token free_of ANumber (decimal m.value) (number_plays m.value e) (number_token m.value (small m.value e)))

-- ---- what a token stands for

is_a_by : (r : Role) (w : List ℕ) (t : Lexeme) → IsSpelled w t → is_a r t ≡ same_role (role_by (kind_of w) w) r
is_a_by r w t s = ap (λ q. same_role q r) (role_is w t s)

pub an_atom : (a : Atom) → Rereads (IsA AtomWord) (λ t. as_atom t ≡ a) (atom_word a ∷ [])
an_atom always = rereads_by (λ t. t) (λ xs t p. p) (λ t s. rw s.text refl) (a_word free_of AtomWord (codes "true") refl refl)
an_atom never = rereads_by (λ t. t) (λ xs t p. p) (λ t s. rw s.text refl) (a_word free_of AtomWord (codes "false") refl refl)
an_atom contracted = rereads_by (λ t. t) (λ xs t p. p) (λ t s. rw s.text refl) (a_word free_of AtomWord (codes "contracted") refl refl)
an_atom expanded = rereads_by (λ t. t) (λ xs t p. p) (λ t s. rw s.text refl) (a_word free_of AtomWord (codes "expanded") refl refl)

pub a_quantifier : (q : Quantifier) → Rereads (IsA QuantifierWord) (λ t. as_quantifier t ≡ q) (quantifier_word q ∷ [])
a_quantifier any = rereads_by (λ t. t) (λ xs t p. p) (λ t s. rw s.text refl) (a_word free_of QuantifierWord (codes "any") refl refl)
a_quantifier all = rereads_by (λ t. t) (λ xs t p. p) (λ t s. rw s.text refl) (a_word free_of QuantifierWord (codes "all") refl refl)

pub a_side : (side : Side) → Rereads (IsA SideWord) (λ t. as_side t ≡ side) (side_word side ∷ [])
a_side own_side = rereads_by (λ t. t) (λ xs t p. p) (λ t s. rw s.text refl) (a_word free_of SideWord (codes "dir") refl refl)
a_side peer_side = rereads_by (λ t. t) (λ xs t p. p) (λ t s. rw s.text refl) (a_word free_of SideWord (codes "peer_dir") refl refl)

pub an_end : (e : End) → Rereads (IsA EndWord) (λ t. as_end t ≡ e) (end_word e ∷ [])
an_end Head = rereads_by (λ t. t) (λ xs t p. p) (λ t s. rw s.text refl) (a_word free_of EndWord (codes "head") refl refl)
an_end Tail = rereads_by (λ t. t) (λ xs t p. p) (λ t s. rw s.text refl) (a_word free_of EndWord (codes "tail") refl refl)

pub a_port_move : (m : PortMove) → Rereads (IsA ThroughWord) (λ t. as_port_move t ≡ m) (move_word m ∷ [])
a_port_move expand = rereads_by (λ t. t) (λ xs t p. p) (λ t s. rw s.text refl) (a_word free_of ThroughWord (codes "expand") refl refl)
a_port_move push = rereads_by (λ t. t) (λ xs t p. p) (λ t s. rw s.text refl) (a_word free_of ThroughWord (codes "push") refl refl)
a_port_move pull = rereads_by (λ t. t) (λ xs t p. p) (λ t s. rw s.text refl) (a_word free_of ThroughWord (codes "pull") refl refl)

pub a_switch : (on : Bool) (w : List ℕ) → is_word w ≡ true → role_by (kind_of w) w ≡ SwitchWord → switch_by w ≡ on → Rereads (IsA SwitchWord) (λ t. as_switch t ≡ on) (w ∷ [])
a_switch on w e plays is = rereads_by (λ t. t) (λ xs t p. p) (λ t s. ap switch_by s.text ∙ is) (a_word free_of SwitchWord w plays e)

pub a_comparison : (c : Cmp) → Rereads (IsA CompareSign) (λ t. as_cmp t ≡ c) (cmp_sign c ∷ [])
a_comparison Eq = rereads_by (λ t. t) (λ xs t p. p) (λ t s. rw s.text refl) (a_sign free_of CompareSign (codes "=") refl refl refl)
a_comparison Ne = rereads_by (λ t. t) (λ xs t p. p) (λ t s. rw s.text refl) (a_sign free_of CompareSign (codes "!=") refl refl refl)
a_comparison Lt = rereads_by (λ t. t) (λ xs t p. p) (λ t s. rw s.text refl) (a_sign free_of CompareSign (codes "<") refl refl refl)
a_comparison Le = rereads_by (λ t. t) (λ xs t p. p) (λ t s. rw s.text refl) (a_sign free_of CompareSign (codes "<=") refl refl refl)
a_comparison Gt = rereads_by (λ t. t) (λ xs t p. p) (λ t s. rw s.text refl) (a_sign free_of CompareSign (codes ">") refl refl refl)
a_comparison Ge = rereads_by (λ t. t) (λ xs t p. p) (λ t s. rw s.text refl) (a_sign free_of CompareSign (codes ">=") refl refl refl)

test_at : (p : PortTest) (w : List ℕ) → is_word w ≡ true → role_by (kind_of w) w ≡ TestWord → ((t : Lexeme) → t.text ≡ w → as_test t ≡ p) → Rereads (IsOne is_test no_limit) (λ t. as_test t ≡ p) (w ∷ [])
test_at p w e plays is = rereads_by (λ t. t) (λ xs t q. q) (λ t s. is t s.text) (rereads_one w (word_token w e) (λ t s. or_left (is_a TestWord t) (is_a FreeWord t) (is_in TestWord t (role_is w t s ∙ plays))) free_of)

pub a_test : (p : PortTest) → Rereads (IsOne is_test no_limit) (λ t. as_test t ≡ p) (test_word p ∷ [])
a_test linked = test_at linked (codes "linked") refl refl (λ t e. rw e refl)
a_test free = rereads_by (λ t. t) (λ xs t q. q) (λ t s. rw s.text refl) (rereads_one (codes "free") (word_token (codes "free") refl) (λ t s. or_right (is_a TestWord t) (is_a FreeWord t) (is_in FreeWord t (role_is (codes "free") t s))) free_of)
a_test at_head = test_at at_head (codes "at_head") refl refl (λ t e. rw e refl)
a_test peer_expanded = test_at peer_expanded (codes "peer_expanded") refl refl (λ t e. rw e refl)
a_test peer_head = test_at peer_head (codes "peer_head") refl refl (λ t e. rw e refl)

pub a_set : (s : PortSet) → Rereads (IsOne is_set no_limit) (λ t. as_set t ≡ s) (set_word s ∷ [])
unfolding same_role
a_set Ports = rereads_by (λ t. t) (λ xs t q. q) (λ t s. rw (is_a_by FreeWord (codes "ports") t s) refl) (rereads_one (codes "ports") (word_token (codes "ports") refl) (λ t s. or_left (is_a PortsWord t) (is_a FreeWord t) (is_in PortsWord t (role_is (codes "ports") t s))) free_of)
a_set Free = rereads_by (λ t. t) (λ xs t q. q) (λ t s. rw (is_a_by FreeWord (codes "free") t s) refl) (rereads_one (codes "free") (word_token (codes "free") refl) (λ t s. or_right (is_a PortsWord t) (is_a FreeWord t) (is_in FreeWord t (role_is (codes "free") t s))) free_of)

abbrev pub IsDirTermOf : DirTerm → Lexeme → Type 0
IsDirTermOf d t = bare_dirterm (as_dirterm t) ≡ bare_dirterm d

pub a_dirterm : (d : DirTerm) → is_writable_dirterm d ≡ true → Rereads (IsOne roles.is_dirterm no_limit) (IsDirTermOf d) (dirterm_word d ∷ [])
unfolding same_role
a_dirterm (fixed m) e =
    rereads_by (λ t. t) (λ xs t q. q) (λ t s. rw (is_a_by ANumber (decimal m.value) t s, number_plays m.value e) (ap fixed (spelled_literal m e t s)))
    (rereads_one (decimal m.value) (number_token m.value (small m.value e)) (λ t s. or_left (is_a ANumber t) (is_a AName t) (is_in ANumber t (role_is (decimal m.value) t s ∙ number_plays m.value e))) free_of)
a_dirterm (held v) e =
    rereads_by (λ t. t) (λ xs t q. q) (λ t s. rw (name_role v.text e t s) (ap (λ (bs : List ℕ). held (record { text = bs; line = 0 })) s.text))
    (rereads_one v.text (word_token v.text (name_word v.text e)) (λ t s. or_right (is_a ANumber t) (is_a AName t) (is_in AName t (name_role v.text e t s))) free_of)

-- ---- signs of terms

pub a_minus : (minus : Bool) → Rereads IsMinus (λ b. b ≡ minus) (first_sign minus)
a_minus true = rereads_by (λ t. true) (λ xs t p. of_first (made t p)) (λ t s. refl) (a_sign free_of MinusSign (codes "-") refl refl refl)
a_minus false = rereads_none false (of_second is_nothing) refl

pub a_joint : (minus : Bool) → Rereads (IsOne is_plus_or_minus no_limit) (λ u. is_a MinusSign u ≡ minus) (further_sign minus ∷ [])
unfolding same_role
a_joint true = rereads_by (λ t. t) (λ xs t q. q) (λ t s. is_a_by MinusSign (codes "-") t s) (rereads_one (codes "-") (sign_is_token (codes "-") refl refl) (λ t s. or_right (is_a PlusSign t) (is_a MinusSign t) (is_in MinusSign t (role_is (codes "-") t s))) free_of)
a_joint false = rereads_by (λ t. t) (λ xs t q. q) (λ t s. is_a_by MinusSign (codes "+") t s) (rereads_one (codes "+") (sign_is_token (codes "+") refl refl) (λ t s. or_left (is_a PlusSign t) (is_a MinusSign t) (is_in PlusSign t (role_is (codes "+") t s))) free_of)
