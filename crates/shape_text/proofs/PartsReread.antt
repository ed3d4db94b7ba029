-- The texts of numbers, nodes, ports and amoebots are read as what they are the texts of.
use Rattle.std.proofs.Common.{◌≡◌, ℕ, ℤ, pos, negsuc, zero, suc, ◌-◌, ◌<◌, ◌≤◌, Bool, true, false, List, [], ◌∷◌, ◌++◌, length, map, take, replicate, None, codes, refl, sym, ap, ◌∙◌, arith, length-take-le, take-append-drop}
use Rattle.std.specs.Prelude.{◌^◌, decimal, bytes_eq, nat_lt}
use Rattle.std.specs.Fmt.{signed_decimal}
use Rattle.std.specs.List.{All, list_all}
use Rattle.std.proofs.lemmas.List.Elements.{All-head, All-tail}
use Rattle.std.proofs.lemmas.Bool.{le-ltb}
use Rattle.std.proofs.lemmas.Int.{ints}
use Rattle.tri_lattice.specs.declared.node.Node.{Node}
use Rattle.text_tokens.specs.declared.token.TokenKind.TheVariants.{Word, Sign}
use Rattle.text_tokens.specs.declared.refusal.RefusalKind.TheVariants.{BadRange}
use Rattle.text_tokens.specs.Text.{Lexeme, is_letter, is_word_byte}
use Rattle.text_tokens.specs.Cursor.{is_the}
use Rattle.text_tokens.specs.Lines.{Words}
use Rattle.text_tokens.specs.Reading.{lexeme_value, no_limit, too_large}
use Rattle.text_tokens.specs.Grammar.{Then, Made, IsThe, of_first, is_nothing}
use Rattle.text_tokens.proofs.PrintedTokens.{kind_of, AreSpelled, none_printed, word_printed, IsOneToken, word_is_token, sign_is_token, word_kind, minus_printed}
use Rattle.amoebot_state.specs.declared.bot.Bot.{Bot}
use Rattle.amoebot_state.specs.declared.bot.Chir.{Chir}
use Rattle.amoebot_state.specs.declared.bot.Chir.TheVariants as chir
use Rattle.amoebot_state.specs.declared.bot.End.{End}
use Rattle.amoebot_state.specs.declared.bot.End.TheVariants as end
use Rattle.amoebot_state.specs.declared.bot.Port.{Port}
use Rattle.amoebot_state.specs.Ports.{end_word, port}
use Rattle.shape_text.specs.Parts.{word, is_minus, IsWord, Means, IsNumber, IsUpTo, negative, IsInt, a_node_of, IsNode, IsEnd, IsChirality, IsPortText, IsValues, memory, a_bot_of, IsBotText}
use Rattle.shape_text.specs.PartTexts.{node_words, port_words, chir_word, bot_words}
use Rattle.shape_text.specs.PartLimits.{size, HasCoordinates, HasLimits}
use Rattle.text_tokens.proofs.LinesLemmas.{Found, Is, Any, Rereads, rereads_then, rereads_made, rereads_as, rereads_first, rereads_second, rereads_nothing, rereads_the, rereads_number, number_token, behind_found, found_by, found_made, the_found, number_found}

-- ---- words and numbers

within : (most n : ℕ) → n ≤ most → (t : Lexeme) → lexeme_value t ≡ n → too_large most BadRange t ≡ None
within most n le t e = let b : nat_lt most n ≡ false = le-ltb _ _ le in rw (e, b) refl

pub up_to : (most n : ℕ) → n ≤ most → most < 10 ^ 9 → Rereads (IsUpTo most) (Is n) (decimal n ∷ [])
up_to most n le small = rereads_number n (omega arith) (too_large most BadRange) (within most n le)

pub any_number : (n : ℕ) → n < 10 ^ 9 → Rereads IsNumber (Is n) (decimal n ∷ [])
any_number n small = rereads_number n small no_limit (λ t e. refl)

negative_is : (n : ℕ) → negative (suc n) ≡ negsuc n
negative_is n = omega (arith, ints)

minus_token : IsOneToken (codes "-")
minus_token = sign_is_token (codes "-") refl refl

module _ (most n : ℕ) (le : suc n ≤ most) (small : most < 10 ^ 9) where
  minus_found : (ts : List Lexeme) → AreSpelled ts (codes "-" ∷ decimal (suc n) ∷ []) → Found (Then (IsThe is_minus) (λ line. Made (IsUpTo most) negative)) (Is (negsuc n)) ts
  minus_found = behind_found {R = Any} (codes "-" ∷ []) (decimal (suc n) ∷ []) (the_found Sign (codes "-") refl refl)
      (λ line x ts s. found_made negative (λ m e. ap negative e ∙ negative_is n) ts (number_found (suc n) (omega arith) (too_large most BadRange) (within most (suc n) le) ts s))

  negative_int : Rereads (IsInt most) (Is (negsuc n)) (signed_decimal (negsuc n) ∷ [])
  negative_int = record {
    spelled = codes "-" ∷ decimal (suc n) ∷ [];
    printed = word_printed (minus_printed (decimal (suc n)) (number_token (suc n) (omega arith))) none_printed;
    read = λ ts s. found_by (λ z. z) (λ xs z is. of_first is) (λ z e. e) ts (minus_found ts s);
  }

pub an_int : (most : ℕ) (z : ℤ) → size z ≤ most → most < 10 ^ 9 → Rereads (IsInt most) (Is z) (signed_decimal z ∷ [])
an_int most (pos n) le small = rereads_second (decimal n ∷ []) (rereads_as (λ n. pos n) (decimal n ∷ []) n (up_to most n le small))
an_int most (negsuc n) le small = negative_int most n le small

pub a_node : (v : Node) → HasCoordinates v → Rereads IsNode (Is v) (node_words v)
a_node v c = rereads_then (signed_decimal v.x ∷ []) (signed_decimal v.y ∷ []) v.x (an_int 9999 v.x c.x (omega arith)) (rereads_as (λ y. a_node_of v.x y) (signed_decimal v.y ∷ []) v.y (an_int 9999 v.y c.y (omega arith)))

-- a word of the format
module _ (b : ℕ) (bytes : List ℕ) (letter : is_letter b ≡ true) (more : list_all is_word_byte bytes ≡ true) (few : length (b ∷ bytes) ≤ 24) (same : bytes_eq (b ∷ bytes) (b ∷ bytes) ≡ true) where
  pub the_kind : kind_of (b ∷ bytes) ≡ Word
  the_kind = word_kind b bytes letter

  pub the_word : Rereads (IsWord (b ∷ bytes)) Any ((b ∷ bytes) ∷ [])
  the_word = rereads_the Word (b ∷ bytes) (word_is_token b bytes letter more few) the_kind same

pub means : {A : Type 0} (test : Lexeme → Bool) (a : A) (words : Words) → Rereads (IsThe test) Any words → Rereads (Means test a) (Is a) words
means test a words p = rereads_made (λ line. a) words (λ line x. refl) p

pub an_end : (e : End) → Rereads IsEnd (Is e) (end_word e ∷ [])
an_end end.Head = rereads_first (codes "head" ∷ []) (means (word (codes "head")) end.Head (codes "head" ∷ []) (the_word _ _ refl refl (omega arith) refl))
an_end end.Tail = rereads_second (codes "tail" ∷ []) (means (word (codes "tail")) end.Tail (codes "tail" ∷ []) (the_word _ _ refl refl (omega arith) refl))

a_chirality : (c : Chir) → Rereads IsChirality (Is c) (chir_word c ∷ [])
a_chirality chir.Plus = rereads_first (codes "+" ∷ []) (means (λ t. is_the Sign (codes "+") t) chir.Plus (codes "+" ∷ []) (rereads_the Sign (codes "+") (sign_is_token (codes "+") refl refl) refl refl))
a_chirality chir.Minus = rereads_second (codes "-" ∷ []) (means is_minus chir.Minus (codes "-" ∷ []) (rereads_the Sign (codes "-") minus_token refl refl))

pub a_port : (p : Port) → p.dir ≤ 5 → Rereads IsPortText (Is p) (port_words p)
a_port p le = rereads_then (end_word p.end ∷ []) (decimal p.dir ∷ []) p.end (an_end p.end) (rereads_as (λ dir. port p.end dir) (decimal p.dir ∷ []) p.dir (up_to 5 p.dir le (omega arith)))

-- ---- amoebots

many_values : (n : ℕ) (xs : List ℕ) → n ≤ length xs → All (λ v. v ≤ 255) xs → Rereads (IsValues n) (Is (take n xs)) (map decimal (take n xs))
many_values zero xs le all = rereads_nothing [] is_nothing
many_values (suc n) [] le all = absurd (omega arith)
many_values (suc n) (x ∷ xs) le all =
    rereads_then (decimal x ∷ []) (map decimal (take n xs)) x (up_to 255 x (All-head (λ v. v ≤ 255) x xs all) (omega arith))
    (rereads_as (λ rest. x ∷ rest) (map decimal (take n xs)) (take n xs) (many_values n xs (omega arith) (All-tail (λ v. v ≤ 255) x xs all)))

module _ (vars : ℕ) (le : vars ≤ 8) where
  -- a memory that has 0 past the variables
  its_memory : (b : Bot) → HasLimits vars b → memory (take vars b.mem) ≡ b.mem
  its_memory b l =
      let size : length (take vars b.mem) ≡ vars = length-take-le vars b.mem (let e = l.eight in omega arith) in
      ap (λ n. take vars b.mem ++ replicate (8 - n) 0) size ∙ ap (λ rest. take vars b.mem ++ rest) (sym l.zeros) ∙ take-append-drop vars b.mem

  pub a_bot : (b : Bot) → HasLimits vars b → Rereads (IsBotText vars) (Is b) (bot_words vars b)
  a_bot b l =
      let vs = take vars b.mem in
      let same : a_bot_of b.head b.tail b.rot b.chir vs ≡ b = ap (λ (mem : List ℕ). record { head = b.head; tail = b.tail; rot = b.rot; chir = b.chir; mem = mem }) (its_memory b l) in
      rereads_then (node_words b.head) (node_words b.tail ++ decimal b.rot ∷ chir_word b.chir ∷ map decimal vs) b.head (a_node b.head l.head)
      (rereads_then (node_words b.tail) (decimal b.rot ∷ chir_word b.chir ∷ map decimal vs) b.tail (a_node b.tail l.tail)
      (rereads_then (decimal b.rot ∷ []) (chir_word b.chir ∷ map decimal vs) b.rot (up_to 5 b.rot l.rot (omega arith))
      (rereads_then (chir_word b.chir ∷ []) (map decimal vs) b.chir (a_chirality b.chir)
      (rereads_made (λ values. a_bot_of b.head b.tail b.rot b.chir values) (map decimal vs) (λ values e. ap (λ values. a_bot_of b.head b.tail b.rot b.chir values) e ∙ same)
      (many_values vars b.mem (let e = l.eight in omega arith) l.values)))))
