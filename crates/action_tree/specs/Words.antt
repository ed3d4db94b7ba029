-- Names and numbers of the language.
use Rattle.std.specs.Prelude.{ℕ, ◌^◌, Bool, false, not, ◌&&◌, nat_lt, List, [], ◌∷◌, length, codes}
use Rattle.std.specs.List.{list_all, list_any}
use Rattle.std.specs.Str.{bytes_eq}
use Rattle.text_tokens.specs.declared.token.TokenKind.TheVariants.{Word, Number}
use Rattle.text_tokens.specs.Text.{is_letter, is_word_byte, most_bytes}

-- the words that are no names
abbrev pub reserved : List (List ℕ)
reserved =
    codes "amoebot" ∷ codes "program" ∷ codes "guard"
    ∷ codes "on" ∷ codes "off" ∷ codes "var" ∷ codes "action"
    ∷ codes "when" ∷ codes "do" ∷ codes "move" ∷ codes "end"
    ∷ codes "if" ∷ codes "then" ∷ codes "else" ∷ codes "fi"
    ∷ codes "for" ∷ codes "od" ∷ codes "let" ∷ codes "in"
    ∷ codes "ports" ∷ codes "free"
    ∷ codes "true" ∷ codes "false" ∷ codes "contracted"
    ∷ codes "expanded" ∷ codes "not" ∷ codes "and" ∷ codes "or"
    ∷ codes "any" ∷ codes "all" ∷ codes "count" ∷ codes "first"
    ∷ codes "head" ∷ codes "tail" ∷ codes "turn" ∷ codes "dir" ∷ codes "peer_dir" ∷ codes "peer_head"
    ∷ codes "peer_expanded" ∷ codes "at_head" ∷ codes "linked" ∷ codes "inner" ∷ codes "mod6"
    ∷ codes "none" ∷ codes "expand" ∷ codes "contract" ∷ codes "push" ∷ codes "pull" ∷ []

-- a letter or `_`, and then letters, digits and `_`, not too many
abbrev pub is_word : List ℕ → Bool
is_word [] = false
is_word (b ∷ bytes) = is_letter b && list_all is_word_byte bytes && nat_lt (length bytes) (most_bytes Word)

abbrev pub is_reserved : List ℕ → Bool
is_reserved text = list_any (bytes_eq text) reserved

abbrev pub is_name : List ℕ → Bool
is_name text = is_word text && not (is_reserved text)

-- it has so few digits
abbrev pub has_few_digits : ℕ → Bool
has_few_digits n = nat_lt n (10 ^ most_bytes Number)
