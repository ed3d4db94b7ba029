-- What the tokens of a program do.
use Rattle.std.specs.Prelude.{ℕ, Bool, true, false, ◌||◌, if◌then◌else◌, List, [], ◌∷◌, codes}
use Rattle.std.specs.Str.{bytes_eq}
use denote.Enum.Bare.{sameb}
use Rattle.text_tokens.specs.declared.token.TokenKind.{TokenKind}
use Rattle.text_tokens.specs.declared.token.TokenKind.TheVariants.{Word, Number, Sign}
use Rattle.text_tokens.specs.Text.{Lexeme}
use Rattle.text_tokens.specs.Reading.{lexeme_value}
use Rattle.amoebot_state.specs.declared.bot.End.{End}
use Rattle.amoebot_state.specs.declared.bot.End.TheVariants.{Head, Tail}
use Rattle.action_tree.specs.declared.expression.PortSet.{PortSet}
use Rattle.action_tree.specs.declared.expression.PortSet.TheVariants.{Ports, Free}
use Rattle.action_tree.specs.declared.expression.Cmp.{Cmp}
use Rattle.action_tree.specs.declared.expression.Cmp.TheVariants.{Eq, Ne, Lt, Le, Gt, Ge}
use Rattle.action_tree.specs.Trees.{Name, Literal, Atom, always, never, contracted, expanded, Quantifier, any, all, PortTest, linked, free, at_head, peer_expanded, peer_head, Side, own_side, peer_side, PortMove, expand, push, pull, DirTerm, fixed, held}
use Rattle.action_tree.specs.contracts.role.Role.{the_type}
use Rattle.action_tree.specs.declared.role.Role.{Role}
use Rattle.action_tree.specs.declared.role.Role.TheVariants.{AName, ANumber, OpenSign, CloseSign, DotSign, PlusSign, MinusSign, CompareSign, BecomesSign, SemicolonSign, AtomWord, NotWord, AndWord, OrWord, QuantifierWord, TestWord, FreeWord, PortsWord, InWord, CountWord, SideWord, InnerWord, Mod6Word, EndWord, TurnWord, FirstWord, LetWord, IfWord, ThenWord, ElseWord, FiWord, ForWord, DoWord, OdWord, MoveWord, NoneWord, ThroughWord, ContractWord, ProgramWord, GuardWord, SwitchWord, VarWord, ActionWord, WhenWord, LastWord, Foreign}

-- ---- tables

-- a text, and what it stands for
pub record Entry (A : Type 0) : Type 0 where
  pub text : List ℕ
  pub value : A

abbrev pub entry : {A : Type 0} → List ℕ → A → Entry A
entry text value = record { text = text; value = value }

-- what a text stands for by a table, and otherwise
abbrev pub look_up : {A : Type 0} → A → List (Entry A) → List ℕ → A
look_up a [] text = a
look_up a (e ∷ es) text = if bytes_eq text e.text then e.value else look_up a es text

-- the reserved words, in their order: a word that is not among them is a name
abbrev pub words : List (Entry Role)
words =
    entry (codes "amoebot") Foreign ∷ entry (codes "program") ProgramWord ∷ entry (codes "guard") GuardWord
    ∷ entry (codes "on") SwitchWord ∷ entry (codes "off") SwitchWord
    ∷ entry (codes "var") VarWord ∷ entry (codes "action") ActionWord ∷ entry (codes "when") WhenWord
    ∷ entry (codes "do") DoWord ∷ entry (codes "move") MoveWord ∷ entry (codes "end") LastWord
    ∷ entry (codes "if") IfWord ∷ entry (codes "then") ThenWord ∷ entry (codes "else") ElseWord
    ∷ entry (codes "fi") FiWord ∷ entry (codes "for") ForWord ∷ entry (codes "od") OdWord
    ∷ entry (codes "let") LetWord ∷ entry (codes "in") InWord ∷ entry (codes "ports") PortsWord
    ∷ entry (codes "free") FreeWord
    ∷ entry (codes "true") AtomWord ∷ entry (codes "false") AtomWord ∷ entry (codes "contracted") AtomWord
    ∷ entry (codes "expanded") AtomWord
    ∷ entry (codes "not") NotWord ∷ entry (codes "and") AndWord ∷ entry (codes "or") OrWord
    ∷ entry (codes "any") QuantifierWord ∷ entry (codes "all") QuantifierWord
    ∷ entry (codes "count") CountWord ∷ entry (codes "first") FirstWord ∷ entry (codes "head") EndWord
    ∷ entry (codes "tail") EndWord ∷ entry (codes "turn") TurnWord
    ∷ entry (codes "dir") SideWord ∷ entry (codes "peer_dir") SideWord ∷ entry (codes "peer_head") TestWord
    ∷ entry (codes "peer_expanded") TestWord
    ∷ entry (codes "at_head") TestWord ∷ entry (codes "linked") TestWord
    ∷ entry (codes "inner") InnerWord ∷ entry (codes "mod6") Mod6Word
    ∷ entry (codes "none") NoneWord ∷ entry (codes "expand") ThroughWord
    ∷ entry (codes "contract") ContractWord
    ∷ entry (codes "push") ThroughWord ∷ entry (codes "pull") ThroughWord
    ∷ []

abbrev pub signs : List (Entry Role)
signs =
    entry (codes "(") OpenSign ∷ entry (codes ")") CloseSign ∷ entry (codes ".") DotSign
    ∷ entry (codes ";") SemicolonSign ∷ entry (codes ":=") BecomesSign ∷ entry (codes "+") PlusSign
    ∷ entry (codes "-") MinusSign
    ∷ entry (codes "=") CompareSign ∷ entry (codes "!=") CompareSign ∷ entry (codes "<") CompareSign
    ∷ entry (codes "<=") CompareSign ∷ entry (codes ">") CompareSign ∷ entry (codes ">=") CompareSign ∷ []

-- ---- roles

abbrev pub role_by : TokenKind → List ℕ → Role
role_by Word text = look_up AName words text
role_by Number text = ANumber
role_by Sign text = look_up Foreign signs text

unfoldable pub role : Lexeme → Role
role t = role_by t.kind t.text

unfoldable pub same_role : Role → Role → Bool
same_role = sameb the_type

abbrev pub is_a : Role → Lexeme → Bool
is_a r t = same_role (role t) r

-- what is asked of a port; a set of ports; a number or a variable that is a direction;
-- a sign between the terms of a sum
abbrev pub is_test : Lexeme → Bool
is_test t = is_a TestWord t || is_a FreeWord t

abbrev pub is_set : Lexeme → Bool
is_set t = is_a PortsWord t || is_a FreeWord t

abbrev pub is_dirterm : Lexeme → Bool
is_dirterm t = is_a ANumber t || is_a AName t

abbrev pub is_plus_or_minus : Lexeme → Bool
is_plus_or_minus t = is_a PlusSign t || is_a MinusSign t

-- ---- what a token stands for

abbrev pub as_name : Lexeme → Name
as_name t = record { text = t.text; line = t.line }

abbrev pub as_literal : Lexeme → Literal
as_literal t = record { value = lexeme_value t; line = t.line }

abbrev pub as_dirterm : Lexeme → DirTerm
as_dirterm t = if is_a ANumber t then fixed (as_literal t) else held (as_name t)

abbrev pub as_set : Lexeme → PortSet
as_set t = if is_a FreeWord t then Free else Ports

-- what a text of a role with several words or signs stands for
abbrev pub switch_by : List ℕ → Bool
switch_by text = look_up false (entry (codes "on") true ∷ []) text

abbrev pub end_of_word : List ℕ → End
end_of_word text = look_up Head (entry (codes "tail") Tail ∷ []) text

abbrev pub atom_by : List ℕ → Atom
atom_by text =
    look_up always
    (entry (codes "false") never ∷ entry (codes "contracted") contracted
    ∷ entry (codes "expanded") expanded ∷ [])
    text

abbrev pub quantifier_by : List ℕ → Quantifier
quantifier_by text = look_up any (entry (codes "all") all ∷ []) text

abbrev pub test_by : List ℕ → PortTest
test_by text =
    look_up linked
    (entry (codes "free") free ∷ entry (codes "at_head") at_head ∷ entry (codes "peer_expanded") peer_expanded
    ∷ entry (codes "peer_head") peer_head ∷ [])
    text

abbrev pub side_by : List ℕ → Side
side_by text = look_up own_side (entry (codes "peer_dir") peer_side ∷ []) text

abbrev pub port_move_by : List ℕ → PortMove
port_move_by text = look_up expand (entry (codes "push") push ∷ entry (codes "pull") pull ∷ []) text

abbrev pub cmp_by : List ℕ → Cmp
cmp_by text =
    look_up Eq
    (entry (codes "!=") Ne ∷ entry (codes "<") Lt ∷ entry (codes "<=") Le ∷ entry (codes ">") Gt
    ∷ entry (codes ">=") Ge ∷ [])
    text

-- a token of such a role, by its text
abbrev pub as_switch : Lexeme → Bool
as_switch t = switch_by t.text

abbrev pub as_end : Lexeme → End
as_end t = end_of_word t.text

abbrev pub as_atom : Lexeme → Atom
as_atom t = atom_by t.text

abbrev pub as_quantifier : Lexeme → Quantifier
as_quantifier t = quantifier_by t.text

abbrev pub as_test : Lexeme → PortTest
as_test t = test_by t.text

abbrev pub as_side : Lexeme → Side
as_side t = side_by t.text

abbrev pub as_port_move : Lexeme → PortMove
as_port_move t = port_move_by t.text

abbrev pub as_cmp : Lexeme → Cmp
as_cmp t = cmp_by t.text
