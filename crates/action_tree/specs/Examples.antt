-- Texts with what they stand for, and texts with their first fault.
use Rattle.std.specs.Prelude.{◌≡◌, ℕ, true, false, ◌==◌, if◌then◌else◌, List, [], ◌∷◌, ◌++◌, map, codes}
use Rattle.text_tokens.specs.declared.refusal.RefusalKind.{RefusalKind}
use Rattle.text_tokens.specs.declared.refusal.RefusalKind.TheVariants.{BadByte, WordTooLong, Unexpected, TooDeep, TooMany, Truncated}
use Rattle.text_tokens.specs.Cursor.{Cursor, at_place}
use Rattle.text_tokens.specs.Grammar.{Lang}
use Rattle.text_tokens.specs.Lawful.{IsText, IsFault}
use Rattle.action_tree.specs.declared.expression.Cmp.TheVariants.{Eq}
use Rattle.action_tree.specs.Trees as tree
use Rattle.action_tree.specs.Trees.{Name, Guard, Sum, term_then, no_terms}
use Rattle.action_tree.specs.Lines.{bare_guard, without_lines}
use Rattle.action_tree.specs.Shipped.{line, erosion, every_form, literal, copies, sum_of_term, yes, no, and, or, x, x_of_p, action}
use Rattle.action_tree.specs.Expressions.{IsExpr}
use Rattle.action_tree.specs.Statements.{IsStmts}
use Rattle.action_tree.specs.Programs.{IsProgram}

-- Each token of a text stands on a line of its own, so the line of a token is its number.
abbrev pub on_lines : List ℕ → List ℕ
on_lines text = map (λ b. if b == 32 then 10 else b) text

-- the tokens of the text
abbrev pub front_of : List ℕ → Cursor
front_of text = at_place (on_lines text) 0 1

-- a text that stands for this, but for the lines
abbrev pub IsRead : {A : Type 0} → Lang A → (A → A) → List ℕ → A → Type 0
IsRead {A} P bare text a = (b : A) × IsText P (front_of text).ahead b [] × (bare b ≡ a)

-- the first fault, at the token of this number
abbrev pub IsRefusedText : {A : Type 0} → Lang A → List ℕ → ℕ → RefusalKind → Type 0
IsRefusedText P text number kind =
    IsFault P (front_of text).last (front_of text).ahead (record { line = number; kind = kind })

-- a text with its first fault, at the token of this number
pub record Wrong : Type 0 where
  pub text : List ℕ
  pub number : ℕ
  pub kind : RefusalKind

abbrev pub wrong : RefusalKind → ℕ → List ℕ → Wrong
wrong kind number text = record { text = text; number = number; kind = kind }

abbrev pub AreRefused : {A : Type 0} → Lang A → List Wrong → Type 0
AreRefused P [] = Unit {0}
AreRefused P (w ∷ ws) = IsRefusedText P w.text w.number w.kind × AreRefused P ws

-- pieces of a text, with a blank between them
abbrev pub with_blanks : List (List ℕ) → List ℕ
with_blanks [] = []
with_blanks (a ∷ []) = a
with_blanks (a ∷ b ∷ more) = a ++ 32 ∷ with_blanks (b ∷ more)

abbrev pub line_source : List ℕ
line_source = with_blanks (codes "program guard off"
    ∷ codes "action out when contracted and free head 0 move expand head 0"
    ∷ codes "action follow_up when expanded move contract tail"
    ∷ codes "end" ∷ [])

abbrev pub erosion_text : List ℕ
erosion_text = with_blanks (codes "program guard off var cand 1 var leader 1"
    ∷ codes "action lead when cand = 1 and leader = 0 and not any p in ports ( p . cand = 1 ) do leader := 1"
    ∷ codes "action erode when cand = 1 and count p in ports ( p . cand = 1"
    ∷ codes "and not ( linked turn p 1 and turn p 1 . cand = 1 ) ) = 1 do cand := 0"
    ∷ codes "end" ∷ [])

abbrev pub every_form_text : List ℕ
every_form_text = with_blanks (codes "program guard on var x 1"
    ∷ codes "action a when true and contracted and expanded and not false"
    ∷ codes "or any p in ports ( linked p ) or all p in free ( free head 0 )"
    ∷ codes "or at_head tail x or peer_expanded turn p 1 or peer_head first p in ports ( true )"
    ∷ codes "or - 1 + x - p . x + count p in ports ( true ) + dir p + peer_dir p + inner + mod6 ( x )"
    ∷ (codes "= inner and inner != inner and inner < inner "
    ++ codes "and inner <= inner and inner > inner and inner >= inner")
    ∷ (codes "do x := - 1 + x - p . x + count p in ports ( true ) + dir "
    ++ codes "p + peer_dir p + inner + mod6 ( x ) ; p . x := inner ; let q := p")
    ∷ (codes "; if true then x := inner else x := inner fi ; "
    ++ codes "for p in ports ( true ) do x := inner od move none")
    ∷ codes "action b when true move expand p action c when true move contract head"
    ∷ codes "action d when true move push p action e when true move pull p"
    ∷ codes "end" ∷ [])

-- two programs, and one of every form
pub record ExamplesAreRead : Type 0 where
  pub line : IsRead IsProgram without_lines line_source line
  pub erosion : IsRead IsProgram without_lines erosion_text erosion
  pub every_form : IsRead IsProgram without_lines every_form_text every_form

-- ---- trees

abbrev zero_is : Sum → Guard
zero_is s = tree.comparison s Eq (sum_of_term (tree.number (literal 0)))

abbrev here : ℕ → List ℕ → Name
here number text = record { text = text; line = number }

pub record TreesAreRead : Type 0 where
  -- `and` binds more than `or`, and `not` more than both
  pub binding : IsRead (IsExpr 1 0) bare_guard (codes "true or not x = 0 and false")
      (or (yes ∷ and (tree.negation (zero_is (sum_of_term (tree.own x))) ∷ no ∷ []) ∷ []))
  -- a parenthesis makes no node, but keeps lists apart
  pub grouped : IsRead (IsExpr 2 0) bare_guard (codes "( true or false ) or ( true ) and ( ( true ) )")
      (or (or (yes ∷ no ∷ []) ∷ and (yes ∷ yes ∷ []) ∷ []))
  -- a minus belongs to the term behind it
  pub minus : IsRead (IsExpr 0 0) bare_guard (codes "- x + p . x - 1 = 0")
      (zero_is (term_then true (tree.own x)
      (term_then false x_of_p (term_then true (tree.number (literal 1)) no_terms))))
  -- names and numbers have the lines of their tokens
  pub lines : IsRead (IsStmts 0 1) (λ s. s) (codes "let q := p ; x := 007")
      (tree.stmts (tree.let_be (here 2 (codes "q")) (tree.bound (here 4 (codes "p")))
      ∷ tree.put (here 6 (codes "x")) (sum_of_term (tree.number (record { value = 7; line = 8 }))) ∷ []))
  -- what may be left out
  pub nothing : IsRead IsProgram without_lines (codes "program end")
      (record { guard = false; vars = []; actions = [] })
  pub little : IsRead IsProgram without_lines (codes "program action a when true move none end")
      (record { guard = false; vars = []; actions = action (codes "a") yes [] tree.no_move ∷ [] })

-- ---- faults

-- what is no program, with its first fault
abbrev pub wrong_programs : List Wrong
wrong_programs =
    wrong Unexpected 1 (codes "action a when true end")
    ∷ wrong Unexpected 2 (codes "program program end")
    ∷ wrong Truncated 1 (codes "program")
    ∷ wrong Unexpected 3 (codes "program guard end")
    ∷ wrong Unexpected 4 (codes "program guard on guard off end")
    ∷ wrong Truncated 2 (codes "program guard")
    ∷ wrong Unexpected 3 (codes "program var end")
    ∷ wrong Unexpected 4 (codes "program var x end")
    ∷ wrong Unexpected 3 (codes "program var 1 x end")
    ∷ wrong Unexpected 6 (codes "program action a when true var x 1 end")
    ∷ wrong Unexpected 3 (codes "program action when true end")
    ∷ wrong Unexpected 4 (codes "program action a true end")
    ∷ wrong Unexpected 5 (codes "program action a when end")
    ∷ wrong Truncated 5 (codes "program action a when true")
    ∷ wrong Unexpected 8 (codes "program action a when true move none do x := 1 end")
    ∷ wrong Unexpected 7 (codes "program action a when true do end")
    ∷ wrong Unexpected 7 (codes "program action a when true move end")
    ∷ wrong Unexpected 8 (codes "program action a when true move none none end")
    ∷ wrong Unexpected 8 (codes "program action a when true move contract p end")
    ∷ wrong Unexpected 8 (codes "program action a when true move expand end")
    ∷ wrong Unexpected 9 (codes "program action a when true move contract head 0 end")
    ∷ wrong Unexpected 2 (codes "program end2 end")
    ∷ wrong Unexpected 5 (codes "program action state when and end")
    ∷ wrong Unexpected 3 (codes "program action do when true end")
    ∷ wrong BadByte 3 (codes "program guard ! on end")
    ∷ wrong Unexpected 2 (codes "program on ! end")
    ∷ wrong WordTooLong 3 (codes "program var abcdefghijklmnopqrstuvwxy 1 end")
    ∷ wrong WordTooLong 4 (codes "program var x 1234567890 end")
    ∷ []

-- what is no list of statements
abbrev pub wrong_statements : List Wrong
wrong_statements =
    wrong Unexpected 1 (codes "1 := 2")
    ∷ wrong Unexpected 2 (codes "x 1")
    ∷ wrong Unexpected 3 (codes "x := := 1")
    ∷ wrong Truncated 2 (codes "x :=")
    ∷ wrong Unexpected 3 (codes "x . := 1")
    ∷ wrong Unexpected 4 (codes "x . y = 1")
    ∷ wrong Unexpected 3 (codes "head 0 := 1")
    ∷ wrong Unexpected 5 (codes "head 0 . x 1")
    ∷ wrong Unexpected 5 (codes "x := 1 ; ; y := 2")
    ∷ wrong Truncated 4 (codes "x := 1 ;")
    ∷ wrong Unexpected 5 (codes "x := 1 ; fi")
    ∷ wrong Unexpected 2 (codes "let := p")
    ∷ wrong Unexpected 3 (codes "let q p")
    ∷ wrong Unexpected 4 (codes "let q := 1")
    ∷ wrong Unexpected 3 (codes "let q = p")
    ∷ wrong Unexpected 2 (codes "let if := p")
    ∷ wrong Unexpected 2 (codes "if then x := 1 fi")
    ∷ wrong Unexpected 3 (codes "if true x := 1 fi")
    ∷ wrong Unexpected 4 (codes "if true then fi")
    ∷ wrong Unexpected 7 (codes "if true then x := 1 od")
    ∷ wrong Unexpected 8 (codes "if true then x := 1 else fi")
    ∷ wrong Unexpected 11 (codes "if true then x := 1 else y := 2 else z := 3 fi")
    ∷ wrong Unexpected 2 (codes "for in ports ( true ) do x := 1 od")
    ∷ wrong Unexpected 3 (codes "for p ports ( true ) do x := 1 od")
    ∷ wrong Unexpected 4 (codes "for p in head ( true ) do x := 1 od")
    ∷ wrong Unexpected 5 (codes "for p in ports true do x := 1 od")
    ∷ wrong Unexpected 8 (codes "for p in ports ( true ) x := 1 od")
    ∷ wrong Unexpected 9 (codes "for p in ports ( true ) do od")
    ∷ wrong Unexpected 12 (codes "for p in ports ( true ) do x := 1 fi")
    ∷ []

-- what is no expression
abbrev pub wrong_expressions : List Wrong
wrong_expressions =
    wrong Unexpected 1 (codes "or true")
    ∷ wrong Unexpected 3 (codes "true or or true")
    ∷ wrong Truncated 2 (codes "true or")
    ∷ wrong Unexpected 3 (codes "true or )")
    ∷ wrong Unexpected 3 (codes "true and and true")
    ∷ wrong Truncated 2 (codes "true and")
    ∷ wrong Unexpected 3 (codes "true and or true")
    ∷ wrong Unexpected 2 (codes "not and")
    ∷ wrong Truncated 1 (codes "not")
    ∷ wrong Unexpected 2 (codes "not )")
    ∷ wrong Unexpected 2 (codes "( ) true")
    ∷ wrong Truncated 2 (codes "( true")
    ∷ wrong Unexpected 3 (codes "( true true )")
    ∷ wrong Unexpected 2 (codes "any in ports ( true )")
    ∷ wrong Unexpected 3 (codes "any p ports ( true )")
    ∷ wrong Unexpected 4 (codes "any p in ( true )")
    ∷ wrong Unexpected 5 (codes "any p in ports true")
    ∷ wrong Unexpected 6 (codes "any p in ports ( )")
    ∷ wrong Unexpected 2 (codes "all not in ports ( true )")
    ∷ wrong Truncated 6 (codes "any p in free ( true")
    ∷ wrong Truncated 1 (codes "linked")
    ∷ wrong Unexpected 2 (codes "linked 1")
    ∷ wrong Unexpected 2 (codes "free ports")
    ∷ wrong Unexpected 2 (codes "at_head and")
    ∷ wrong Truncated 1 (codes "x")
    ∷ wrong Unexpected 2 (codes "x and true")
    ∷ wrong Unexpected 4 (codes "x + 1 )")
    ∷ wrong Unexpected 1 (codes "= 1")
    ∷ wrong Unexpected 3 (codes "x = = 1")
    ∷ wrong Unexpected 3 (codes "x = true")
    ∷ wrong Truncated 2 (codes "x =")
    ∷ wrong Unexpected 2 (codes "- - 1 = 0")
    ∷ wrong Unexpected 3 (codes "1 + + 2 = 0")
    ∷ wrong Unexpected 3 (codes "1 + - 2 = 0")
    ∷ wrong Truncated 4 (codes "x = 1 +")
    ∷ wrong Unexpected 5 (codes "x = 1 + )")
    ∷ wrong Unexpected 3 (codes "head 0 = 1")
    ∷ wrong Unexpected 3 (codes "p . = 1")
    ∷ wrong Unexpected 3 (codes "p . 1 = 1")
    ∷ wrong Unexpected 4 (codes "turn p 1 = 1")
    ∷ wrong Unexpected 3 (codes "turn p q . x = 1")
    ∷ wrong Unexpected 2 (codes "turn 1 p . x = 1")
    ∷ wrong Unexpected 2 (codes "head . x = 1")
    ∷ wrong Unexpected 8 (codes "first p in ports ( true ) = 1")
    ∷ wrong Unexpected 5 (codes "count p in ports true = 1")
    ∷ wrong Unexpected 2 (codes "dir = 1")
    ∷ wrong Unexpected 2 (codes "peer_dir 1 = 1")
    ∷ wrong Unexpected 2 (codes "inner 1 = 1")
    ∷ wrong Unexpected 2 (codes "mod6 x = 1")
    ∷ wrong Unexpected 3 (codes "mod6 ( true ) = 1")
    ∷ wrong Unexpected 4 (codes "mod6 ( x = 1")
    ∷ []

-- with two levels and two names left
pub record FaultsAreFound : Type 0 where
  pub programs : AreRefused IsProgram wrong_programs
  pub statements : AreRefused (IsStmts 2 2) wrong_statements
  pub expressions : AreRefused (IsExpr 2 2) wrong_expressions

-- ---- limits

-- a limit, just kept and just passed
pub record Limit : Type 0 where
  pub kept : List ℕ
  pub passed : Wrong

abbrev pub limit : List ℕ → RefusalKind → ℕ → List ℕ → Limit
limit kept kind number passed = record { kept = kept; passed = wrong kind number passed }

-- the first is a text, and the second is refused
abbrev pub AreKept : {A : Type 0} → Lang A → List Limit → Type 0
AreKept P [] = Unit {0}
AreKept {A} P (l ∷ ls) =
    ((a : A) × IsText P (front_of l.kept).ahead a [])
    × IsRefusedText P l.passed.text l.passed.number l.passed.kind
    × AreKept P ls

-- two levels of an expression, by each opening
abbrev pub expression_levels : List Limit
expression_levels =
    limit (codes "not not true") TooDeep 3 (codes "not not not true")
    ∷ limit (codes "( ( true ) )") TooDeep 3 (codes "( ( ( true ) ) )")
    ∷ limit (codes "not ( true )") TooDeep 3 (codes "not ( not true )")
    ∷ limit (codes "any p in ports ( not true )") TooDeep 7 (codes "any p in ports ( not not true )")
    ∷ limit (codes "not all p in free ( true )") TooDeep 7 (codes "not not all p in free ( true )")
    ∷ limit (codes "linked turn turn p 1 1") TooDeep 4 (codes "linked turn turn turn p 1 1 1")
    ∷ limit (codes "not linked turn p 1") TooDeep 4 (codes "not linked turn turn p 1 1")
    ∷ limit (codes "mod6 ( mod6 ( 1 ) ) = 1") TooDeep 6 (codes "mod6 ( mod6 ( mod6 ( 1 ) ) ) = 1")
    ∷ limit (codes "mod6 ( count p in ports ( true ) ) = 1") TooDeep 8
    (codes "not mod6 ( count p in ports ( true ) ) = 1")
    ∷ limit (codes "turn first p in ports ( true ) 1 . x = 1") TooDeep 7
    (codes "turn turn first p in ports ( true ) 1 1 . x = 1")
    ∷ limit (codes "not not true and not not true") TooDeep 6 (codes "not true and not not not true")
    ∷ limit (codes "not not true or ( ( true ) )") TooDeep 5 (codes "true or not not ( true )")
    ∷ limit (codes "x + turn turn p 1 1 . x = 1") TooDeep 5 (codes "x + turn turn turn p 1 1 1 . x = 1")
    ∷ []

-- two levels of statements
abbrev pub statement_levels : List Limit
statement_levels =
    limit (codes "if true then if true then x := 1 fi fi") TooDeep 7
    (codes "if true then if true then if true then x := 1 fi fi fi")
    ∷ limit (codes "if not true then x := 1 fi") TooDeep 3 (codes "if not not true then x := 1 fi")
    ∷ limit (codes "if true then x := 1 else if true then x := 1 fi fi") TooDeep 11
    (codes "if true then x := 1 else if true then if true then x := 1 fi fi fi")
    ∷ limit (codes "for p in ports ( true ) do x := 1 od") TooDeep 8
    (codes "if true then for p in ports ( true ) do x := 1 od fi")
    ∷ limit (codes "for p in ports ( true ) do if true then x := 1 fi od") TooDeep 12
    (codes "for p in ports ( true ) do if true then if true then x := 1 fi fi od")
    ∷ limit (codes "let q := turn turn p 1 1") TooDeep 6 (codes "let q := turn turn turn p 1 1 1")
    ∷ limit (codes "turn turn p 1 1 . x := 1") TooDeep 3 (codes "turn turn turn p 1 1 1 . x := 1")
    ∷ limit (codes "x := 1 ; if not true then y := 1 fi") TooDeep 7
    (codes "x := 1 ; if not not true then y := 1 fi")
    ∷ []

-- two names in an expression, by each binding
abbrev pub expression_names : List Limit
expression_names =
    limit (codes "any p in ports ( all q in ports ( true ) )") TooMany 12
    (codes "any p in ports ( all q in ports ( any r in ports ( true ) ) )")
    ∷ limit (codes "any p in ports ( count q in ports ( true ) = 1 )") TooMany 12
    (codes "any p in ports ( count q in ports ( count r in ports ( true ) = 1 ) = 1 )")
    ∷ limit (codes "any p in ports ( linked first q in ports ( true ) )") TooMany 14
    (codes "any p in ports ( linked first q in ports ( linked first r in ports ( true ) ) )")
    ∷ limit (codes "any p in ports ( true ) and any p in ports ( any p in ports ( true ) )") TooMany 20
    (codes "any p in ports ( true ) and any p in ports ( any p in ports ( any p in ports ( true ) ) )")
    ∷ []

-- Two names in statements.
-- A name that `let` binds is in force from the next statement to the end of its list,
-- one that `for` binds up to `od`.
abbrev pub statement_names : List Limit
statement_names =
    limit (codes "let p := head 0 ; let q := head 1") TooMany 14
    (codes "let p := head 0 ; let q := head 1 ; let r := head 2")
    ∷ limit (codes "let p := head 0 ; let q := first r in ports ( true )") TooMany 16
    (codes "let p := head 0 ; let q := head 1 ; x := count r in ports ( true )")
    ∷ limit (codes "for p in ports ( any q in ports ( true ) ) do x := 1 od") TooMany 12
    (codes "for p in ports ( any q in ports ( any r in ports ( true ) ) ) do x := 1 od")
    ∷ limit
    (codes "for p in ports ( true ) do let q := p od ; for p in ports ( true ) do let q := p od") TooMany 15
    (codes "for p in ports ( true ) do let q := p ; let r := p od")
    ∷ limit (codes "if true then let p := head 0 ; let q := p fi ; let p := head 0 ; let q := p") TooMany 16
    (codes "let p := head 0 ; if true then let q := p ; let r := p fi")
    ∷ []

-- behind so many pieces
abbrev pub after_copies : ℕ → List ℕ → List (List ℕ) → List ℕ
after_copies n piece more = with_blanks (copies n piece ++ more)

-- 64 elements of an `and`, of an `or`, of a sum
abbrev pub element_counts : List Limit
element_counts =
    limit (after_copies 63 (codes "true and") (codes "true" ∷ [])) TooMany 129
    (after_copies 64 (codes "true and") (codes "true" ∷ []))
    ∷ limit (after_copies 63 (codes "true or") (codes "true" ∷ [])) TooMany 129
    (after_copies 64 (codes "true or") (codes "true" ∷ []))
    ∷ limit (after_copies 63 (codes "1 +") (codes "1 = 0" ∷ [])) TooMany 129
    (after_copies 64 (codes "1 +") (codes "1 = 0" ∷ []))
    ∷ limit (after_copies 63 (codes "true or") (codes "not not true" ∷ [])) TooMany 129
    (after_copies 64 (codes "true or") (codes "not not true" ∷ []))
    ∷ []

-- where an element one too many is none, is missing, or also opens a level too many
abbrev pub past_elements : List Wrong
past_elements =
    wrong Unexpected 129 (after_copies 64 (codes "true and") (codes "and" ∷ []))
    ∷ wrong Truncated 128 (with_blanks (copies 64 (codes "true and")))
    ∷ wrong TooDeep 131 (codes "not not " ++ after_copies 64 (codes "1 +") (codes "turn p 1 . x = 0" ∷ []))
    ∷ []

-- 64 statements
abbrev pub statement_counts : List Limit
statement_counts =
    limit (after_copies 63 (codes "x := 1 ;") (codes "x := 1" ∷ [])) TooMany 257
    (after_copies 64 (codes "x := 1 ;") (codes "x := 1" ∷ [])) ∷ []

-- 8 variables, 32 actions, 4 names that an action binds
abbrev pub program_counts : List Limit
program_counts =
    limit (codes "program " ++ after_copies 8 (codes "var x 1") (codes "end" ∷ [])) TooMany 26
    (codes "program " ++ after_copies 9 (codes "var x 1") (codes "end" ∷ []))
    ∷ limit (codes "program " ++ after_copies 32 (codes "action a when true") (codes "end" ∷ [])) TooMany 130
    (codes "program " ++ after_copies 33 (codes "action a when true") (codes "end" ∷ []))
    ∷ limit (codes "program action a when true do "
    ++ after_copies 3 (codes "let p := head 0 ;") (codes "let p := head 0 move expand p end" ∷ [])) TooMany 33
    (codes "program action a when true do " ++ after_copies 3 (codes "let p := head 0 ;")
    (codes "let p := head 0 move expand first p in ports ( true ) end" ∷ []))
    ∷ []

pub record LimitsAreKept : Type 0 where
  pub levels : AreKept (IsExpr 2 2) expression_levels
  pub deeper : AreKept (IsStmts 2 2) statement_levels
  pub names : AreKept (IsExpr 3 2) expression_names
  pub bindings : AreKept (IsStmts 4 2) statement_names
  pub elements : AreKept (IsExpr 2 0) element_counts
  pub past : AreRefused (IsExpr 2 0) past_elements
  pub statements : AreKept (IsStmts 0 0) statement_counts
  pub programs : AreKept IsProgram program_counts
