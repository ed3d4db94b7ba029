-- Canonical texts of a few programs, as bytes.
use Rattle.std.specs.Prelude.{◌≡◌, false, List, [], ◌∷◌, ◌++◌, codes, ℕ}
use Rattle.text_tokens.specs.Lines.{line_text}
use Rattle.amoebot_state.specs.declared.bot.End.TheVariants.{Tail}
use Rattle.action_tree.specs.declared.expression.Cmp.TheVariants.{Gt}
use Rattle.action_tree.specs.Trees as tree
use Rattle.action_tree.specs.Trees.{Guard, Sum, Term, Stmt, Program, atom, negation, comparison, own, number, put, if_then, no_stmts, stmts, contract, term_then}
use Rattle.action_tree.specs.Shipped.{example_name, literal, sum_of_term, yes, no, own_is, and, or, var, action, line, erosion, hexagon, every_form}
use Rattle.action_print.specs.Canon.{guard_words, canon}

-- it counts to 2, and begins again
abbrev m : Term
m = own (example_name (codes "m"))

abbrev pub counting_guard : Guard
counting_guard =
    and (or (own_is (codes "m") 0 ∷ own_is (codes "m") 1 ∷ []) ∷ negation (atom tree.contracted) ∷ [])

abbrev pub m_plus_one : Sum
m_plus_one = term_then false m (sum_of_term (number (literal 1)))

abbrev pub begin_again : Stmt
begin_again =
    if_then (comparison (sum_of_term m) Gt (sum_of_term (number (literal 2))))
    (stmts (put (example_name (codes "m")) (sum_of_term (number (literal 0))) ∷ [])) no_stmts

abbrev pub counting_body : List Stmt
counting_body = put (example_name (codes "m")) m_plus_one ∷ begin_again ∷ []

abbrev pub counting : Program
counting = record {
  guard = false;
  vars = var (codes "m") 3 ∷ [];
  actions = action (codes "a") counting_guard counting_body (contract Tail) ∷ [];
}

abbrev counting_text : List ℕ
counting_text =
    codes "program\nguard off\nvar m 3\naction a\nwhen ( m = 0 or m = 1 ) and not contracted\n"
    ++ codes "do m := m + 1 ; if m > 2 then m := 0 fi\nmove contract tail\nend\n"

abbrev line_program_text : List ℕ
line_program_text =
    codes "program\nguard off\naction out\nwhen contracted and free head 0\nmove expand head 0\n"
    ++ codes "action follow_up\nwhen expanded\nmove contract tail\nend\n"

abbrev erosion_text : List ℕ
erosion_text =
    codes "program\nguard off\nvar cand 1\nvar leader 1\naction lead\n"
    ++ codes "when cand = 1 and leader = 0 and not any p in ports ( p . cand = 1 )\n"
    ++ codes "do leader := 1\nmove none\n"
    ++ codes "action erode\nwhen cand = 1 and count p in ports ( p . cand = 1 "
    ++ codes "and not ( linked turn p 1 and turn p 1 . cand = 1 ) ) = 1\ndo cand := 0\nmove none\nend\n"

abbrev hexagon_text : List ℕ
hexagon_text =
    codes "program\nguard off\nvar state 4\nvar parent 6\nvar aim 6\n"
    ++ codes "action root\nwhen contracted and ( state = 0 or state = 2 ) "
    ++ codes "and any p in ports ( p . state = 1 or p . state = 4 )\n"
    ++ codes "do parent := 6 ; state := 3\nmove none\n"
    ++ codes "action follow\nwhen contracted and state = 0 and "
    ++ codes "any p in ports ( p . state = 2 or p . state = 3 )\n"
    ++ codes "do let q := first p in ports ( p . state = 2 "
    ++ codes "or p . state = 3 ) ; parent := dir q ; state := 2\nmove none\n"
    ++ codes "action retire\n"
    ++ codes "when contracted and state = 3 and any p in ports ( ( p . state = 1 "
    ++ codes "or p . state = 4 ) and p . aim = peer_dir p )\n"
    ++ codes "do let q := first p in ports ( ( p . state = 1 or p . state = 4 ) "
    ++ codes "and not ( linked turn p 5 and ( turn p 5 . state = 1 or turn p 5 . state = 4 ) ) ) ; "
    ++ codes "aim := dir turn q 5 ; state := 4\nmove none\n"
    ++ codes "action go\nwhen contracted and state = 3 and any p in ports "
    ++ codes "( ( p . state = 1 or p . state = 4 ) and free turn p 1 )\n"
    ++ codes "move expand turn first p in ports ( ( p . state = 1 or p . state = 4 ) and free turn p 1 ) 1\n"
    ++ codes "action drag\nwhen expanded and ( state = 2 or state = 3 ) "
    ++ codes "and not any p in ports ( p . state = 0 ) and any p in ports ( "
    ++ codes "not at_head p and p . state = 2 and not peer_expanded p and p . parent = peer_dir p )\n"
    ++ codes "do let q := first p in ports ( not at_head p and p . state = 2 "
    ++ codes "and not peer_expanded p and p . parent = peer_dir p ) ; "
    ++ codes "q . parent := mod6 ( inner - dir q + peer_dir q + 3 )\nmove pull q\n"
    ++ codes "action rest\nwhen expanded and ( state = 2 "
    ++ codes "or state = 3 ) and not any p in ports ( p . state = 0 or "
    ++ codes "not at_head p and p . state = 2 and peer_head p and p . parent = peer_dir p )\n"
    ++ codes "move contract tail\nend\n"

abbrev every_sum_text : List ℕ
every_sum_text = codes "- 1 + x - p . x + count p in ports ( true ) + dir p + peer_dir p + inner + mod6 ( x )"

abbrev every_form_text : List ℕ
every_form_text =
    codes "program\nguard on\nvar x 1\naction a\n"
    ++ codes "when true and contracted and expanded and not false or "
    ++ codes "any p in ports ( linked p ) or all p in free ( free head 0 ) or "
    ++ codes "at_head tail x or peer_expanded turn p 1 or peer_head first p in ports ( true ) or "
    ++ every_sum_text
    ++ codes " = inner and inner != inner and inner < inner "
    ++ codes "and inner <= inner and inner > inner and inner >= inner\n"
    ++ codes "do x := " ++ every_sum_text
    ++ codes " ; p . x := inner ; let q := p ; if true then x := inner else x := inner fi ; "
    ++ codes "for p in ports ( true ) do x := inner od\nmove none\n"
    ++ codes "action b\nwhen true\nmove expand p\naction c\nwhen true\nmove contract head\n"
    ++ codes "action d\nwhen true\nmove push p\naction e\nwhen true\nmove pull p\nend\n"

-- ---- parentheses

abbrev both : Guard
both = and (yes ∷ no ∷ [])

abbrev one_of_two : Guard
one_of_two = or (yes ∷ no ∷ [])

abbrev pub nested : Guard
nested =
    or (one_of_two ∷ both ∷ and (both ∷ one_of_two ∷ negation both ∷ []) ∷ negation one_of_two
    ∷ negation (negation yes) ∷ [])

abbrev nested_text : List ℕ
nested_text =
    codes "( true or false ) or true and false or ( true and false ) and ( true or false ) "
    ++ codes "and not ( true and false ) or not ( true or false ) or not not true\n"

pub record CanonIsPinned : Type 0 where
  pub counting : canon counting ≡ counting_text
  pub line : canon line ≡ line_program_text
  pub erosion : canon erosion ≡ erosion_text
  pub hexagon : canon hexagon ≡ hexagon_text
  pub every_form : canon every_form ≡ every_form_text
  pub parentheses : line_text (guard_words nested) ≡ nested_text
