use Rattle.std.proofs.Common.{◌≡◌, List, [], ◌∷◌, Ok, Err, true, false, Some, None, refl, subst}
use Rattle.std.specs.Prelude.{codes}
use Rattle.text_tokens.specs.declared.refusal.RefusalKind.TheVariants.{Unexpected, TooMany, Truncated}
use Rattle.text_tokens.specs.Text.{Lexeme}
use Rattle.text_tokens.specs.Cursor.{same_kind, on_line}
use Rattle.text_tokens.specs.Reading.{Answer, one_within, the_line, numeral, either, by_role, limited, elements, repeated}
use Rattle.text_tokens.specs.Lawful.{Tells}
use Rattle.text_tokens.specs.Puts.{Put, a_summand, a_put, IsPut, a_put_name, a_put_minus, summand_of, a_put_sum, assigned, put}
use Rattle.text_tokens.specs.PutTexts.{name_token, digits, op, IsPutText, IsPutFault, to_a, four}
use Rattle.text_tokens.proofs.CombinatorLemmas.{decided}
use Rattle.text_tokens.proofs.PutLaws.{exact_put}
use Rattle.text_tokens.proofs.examples.puts_are_decided.Goals as goal

pub returns-clause-exact : goal.returns-clause-exact
returns-clause-exact c = exact_put

pub returns-clause-decided : goal.returns-clause-decided
returns-clause-decided c = decided IsPut put exact_put

is_so : (ts : List Lexeme) (r : Answer Put) → put (on_line 20 Truncated) ts ≡ r → Tells IsPut (on_line 20 Truncated) ts r
is_so ts r e = subst (λ (s : Answer Put). Tells IsPut (on_line 20 Truncated) ts s) e (exact_put.tells (on_line 20 Truncated) ts)

own : IsPutText (to_a (digits 3 (codes "1") ∷ op 4 (codes "-") ∷ digits 5 (codes "2") ∷ name_token 6 (codes "b") ∷ [])) (a_put None (codes "a") (a_summand false 1 ∷ a_summand true 2 ∷ [])) (name_token 6 (codes "b") ∷ [])
unfolding same_kind one_within the_line numeral either by_role limited elements repeated a_put_name a_put_minus summand_of a_put_sum assigned put
own = is_so _ (Ok (_, _)) refl

others : IsPutText (name_token 1 (codes "a") ∷ op 2 (codes ".") ∷ name_token 3 (codes "b") ∷ op 4 (codes ":=") ∷ op 5 (codes "-") ∷ digits 6 (codes "1") ∷ []) (a_put (Some (codes "a")) (codes "b") (a_summand true 1 ∷ [])) []
unfolding same_kind one_within the_line numeral either by_role limited elements repeated a_put_name a_put_minus summand_of a_put_sum assigned put
others = is_so _ (Ok (_, _)) refl

neither : IsPutFault (name_token 1 (codes "a") ∷ op 2 (codes ";") ∷ []) (on_line 2 Unexpected)
unfolding same_kind one_within the_line numeral either by_role limited elements repeated a_put_name a_put_minus summand_of a_put_sum assigned put
neither = is_so _ (Err _) refl

alone : IsPutFault (name_token 1 (codes "a") ∷ []) (on_line 20 Truncated)
unfolding same_kind one_within the_line numeral either by_role limited elements repeated a_put_name a_put_minus summand_of a_put_sum assigned put
alone = is_so _ (Err _) refl

no_name : IsPutFault (name_token 1 (codes "a") ∷ op 2 (codes ".") ∷ op 3 (codes ":=") ∷ []) (on_line 3 Unexpected)
unfolding same_kind one_within the_line numeral either by_role limited elements repeated a_put_name a_put_minus summand_of a_put_sum assigned put
no_name = is_so _ (Err _) refl

no_number : IsPutFault (to_a (digits 3 (codes "1") ∷ op 4 (codes "+") ∷ op 5 (codes "-") ∷ [])) (on_line 5 Unexpected)
unfolding same_kind one_within the_line numeral either by_role limited elements repeated a_put_name a_put_minus summand_of a_put_sum assigned put
no_number = is_so _ (Err _) refl

no_more : IsPutFault (to_a (digits 3 (codes "1") ∷ op 4 (codes "+") ∷ [])) (on_line 20 Truncated)
unfolding same_kind one_within the_line numeral either by_role limited elements repeated a_put_name a_put_minus summand_of a_put_sum assigned put
no_more = is_so _ (Err _) refl

fifth : IsPutFault (to_a (four (op 10 (codes "+") ∷ digits 11 (codes "5") ∷ []))) (on_line 11 TooMany)
unfolding same_kind one_within the_line numeral either by_role limited elements repeated a_put_name a_put_minus summand_of a_put_sum assigned put
fifth = is_so _ (Err _) refl

no_fifth : IsPutFault (to_a (four (op 10 (codes "+") ∷ name_token 11 (codes "b") ∷ []))) (on_line 11 Unexpected)
unfolding same_kind one_within the_line numeral either by_role limited elements repeated a_put_name a_put_minus summand_of a_put_sum assigned put
no_fifth = is_so _ (Err _) refl

pub returns-clause-read : goal.returns-clause-read
returns-clause-read c = record { own = own; others = others; neither = neither; alone = alone; no_name = no_name; no_number = no_number; no_more = no_more; fifth = fifth; no_fifth = no_fifth }
