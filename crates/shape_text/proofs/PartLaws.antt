-- The readers of what several sections have are parts for their grammars.
use Rattle.std.proofs.Common.{◌≡◌, ℕ, pos, Bool, true, false, List, Option, refl}
use Rattle.std.specs.Prelude.{codes}
use Rattle.std.specs.Str.{bytes_eq}
use Rattle.text_tokens.specs.declared.token.TokenKind.TheVariants.{Word, Number, Sign}
use Rattle.text_tokens.specs.declared.refusal.RefusalKind.{RefusalKind}
use Rattle.text_tokens.specs.declared.refusal.RefusalKind.TheVariants.{BadRange}
use Rattle.text_tokens.specs.Text.{Lexeme}
use Rattle.text_tokens.specs.Cursor.{same_kind}
use Rattle.text_tokens.specs.Reading.{Reader, ◌>>=◌, pure, one_within, is_number, too_large, no_limit, closed}
use Rattle.text_tokens.specs.Grammar.{Lang, IsOne, Then, Made, Closed}
use Rattle.text_tokens.specs.Lawful.{IsPart, Starts, always}
use Rattle.text_tokens.proofs.Parts.{part_one, part_closed}
use Rattle.text_tokens.proofs.StartsLemmas.{starts_one}
use Rattle.text_tokens.proofs.RepeatedLemmas.{part_times}
use Rattle.text_tokens.proofs.LexemeLemmas.{passing, passes, kind_is, other_text, a_token, a_numeral, starts_the, starts_numeral}
use Rattle.text_tokens.proofs.JoinedParts.{one_behind, into, one_of_two, starts_behind, starts_into}
use Rattle.amoebot_state.specs.declared.bot.Chir.TheVariants.{Plus, Minus}
use Rattle.amoebot_state.specs.declared.bot.End.TheVariants.{Head, Tail}
use Rattle.amoebot_state.specs.Ports.{port}
use Rattle.shape_text.specs.Parts.{word, sign, is_minus, is_end, IsWord, Means, IsNumber, IsUpTo, negative, IsInt, a_node_of, IsNode, IsEnd, IsChirality, IsPortText, IsValues, a_bot_of, IsBotText}
use Rattle.shape_text.specs.PartReaders.{a_word, a_number, up_to, an_int, a_node, an_end, a_chirality, a_port_text, values, a_bot}

-- ---- forms

-- a list up to its end
pub up_to_end : {A : Type 0} {P : Lang A} {p : Reader A} → IsPart P p is_end → IsPart (Closed P is_end) (closed p is_end) always
up_to_end {P = P} {p = p} part = part_closed P p is_end (passing Word (codes "end")) (passes Word (codes "end") refl) part

-- a part that begins with this word
pub starts_word : {B : Type 0} {Q : ℕ → Lang B} {q : ℕ → Reader B} {stop : Lexeme → Bool} (text : List ℕ) → ((line : ℕ) → IsPart (Q line) (q line) stop) → Starts (Then (IsWord text) Q) (word text) no_limit
starts_word text part = starts_behind (starts_the (word text)) part

-- ---- tokens

pub part_word : (text : List ℕ) → bytes_eq text text ≡ true → IsPart (IsWord text) (a_word text) always
part_word text e = a_token Word text e

-- this word, where not too many stand before it, for its line
pub part_word_within : (text : List ℕ) (over : Lexeme → Option RefusalKind) → bytes_eq text text ≡ true → IsPart (Made (IsOne (word text) over) (λ t. t.line)) (one_within (word text) over >>= λ t. pure t.line) always
part_word_within text over e = into (λ t. t.line) (part_one (word text) over (passing Word text) (passes Word text e))

pub starts_word_within : (text : List ℕ) (over : Lexeme → Option RefusalKind) → Starts (Made (IsOne (word text) over) (λ t. t.line)) (word text) over
starts_word_within text over = starts_into (λ t. t.line) (starts_one (word text) over)

pub part_number : IsPart IsNumber a_number always
part_number = a_numeral no_limit

pub part_up_to : (most : ℕ) → IsPart (IsUpTo most) (up_to most) always
part_up_to most = a_numeral (too_large most BadRange)

pub starts_means : {A : Type 0} (test : Lexeme → Bool) (a : A) → Starts (Means test a) test no_limit
starts_means test a = starts_into (λ line. a) (starts_the test)

number_no_sign : (text : List ℕ) (t : Lexeme) → is_number t ≡ true → sign text t ≡ false
unfolding same_kind
number_no_sign text t e = rw (kind_is Number t e) refl

pub number_no_word : (text : List ℕ) (t : Lexeme) → is_number t ≡ true → word text t ≡ false
unfolding same_kind
number_no_word text t e = rw (kind_is Number t e) refl

-- ---- parts

pub part_end : IsPart IsEnd an_end always
unfolding an_end
part_end = one_of_two (starts_means (word (codes "head")) Head) (starts_means (word (codes "tail")) Tail)
    (λ t e. other_text Word (codes "tail") (codes "head") t refl e)
    (into (λ line. Head) (a_token Word (codes "head") refl))
    (into (λ line. Tail) (a_token Word (codes "tail") refl))

part_chirality : IsPart IsChirality a_chirality always
unfolding a_chirality
part_chirality = one_of_two (starts_means (sign (codes "+")) Plus) (starts_means (sign (codes "-")) Minus)
    (λ t e. other_text Sign (codes "-") (codes "+") t refl e)
    (into (λ line. Plus) (a_token Sign (codes "+") refl))
    (into (λ line. Minus) (a_token Sign (codes "-") refl))

pub part_int : (most : ℕ) → IsPart (IsInt most) (an_int most) always
unfolding an_int
part_int most = one_of_two (starts_behind (starts_the is_minus) (λ line. into negative (part_up_to most))) (starts_into (λ n. pos n) (starts_numeral (too_large most BadRange)))
    (λ t e. number_no_sign (codes "-") t e)
    (one_behind (a_token Sign (codes "-") refl) (λ line. into negative (part_up_to most)))
    (into (λ n. pos n) (part_up_to most))

pub part_node : IsPart IsNode a_node always
unfolding a_node
part_node = one_behind (part_int 9999) (λ x. into (λ y. a_node_of x y) (part_int 9999))

pub part_port : IsPart IsPortText a_port_text always
unfolding a_port_text
part_port = one_behind part_end (λ end. into (λ dir. port end dir) (part_up_to 5))

part_values : (vars : ℕ) → IsPart (IsValues vars) (values vars) always
part_values vars = part_times (IsUpTo 255) (up_to 255) (part_up_to 255) vars

pub part_bot : (vars : ℕ) → IsPart (IsBotText vars) (a_bot vars) always
unfolding a_bot
part_bot vars = one_behind part_node (λ head. one_behind part_node (λ tail. one_behind (part_up_to 5) (λ rot. one_behind part_chirality (λ chir. into (λ vs. a_bot_of head tail rot chir vs) (part_values vars)))))
