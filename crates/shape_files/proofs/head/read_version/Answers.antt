use Rattle.std.proofs.Common.{◌≡◌, ℕ, List, Option, Ok, Err, refl, sym, ap, subst, ◌∙◌}
use Rattle.std.proofs.lemmas.Result.{err_from_is_err_and}
use Rattle.text_tokens.specs.declared.refusal.Refusal.{Refusal}
use Rattle.text_tokens.specs.declared.refusal.RefusalKind.{RefusalKind}
use Rattle.text_tokens.specs.declared.refusal.RefusalKind.TheVariants.{BadRange}
use Rattle.text_tokens.specs.Text.{Lexeme}
use Rattle.text_tokens.specs.declared.refusal.ReadRefusal.TheVariants.{Refused}
use Rattle.text_tokens.specs.Cursor.{Cursor, number_value, slice}
use Rattle.text_tokens.specs.Reading.{one, one_within, no_limit, pure, is_number, lexeme_value, the_line, numeral}
use Rattle.text_tokens.specs.Steps.{lexeme_of}
use Rattle.text_tokens.proofs.StepsLemmas.{Reached, took, missed, goes_past, on, fails, on_made}
use Rattle.shape_text.specs.Parts.{outside}
use Rattle.shape_text.proofs.Outside.{outlying, inside}
use Rattle.shape_files.specs.Frame.{is_header_word, greatest_version}
use Rattle.shape_files.specs.FrameReaders.{header_from}
use Rattle.shape_files.proofs.head.read_version.Goals as goal

abbrev over : ℕ → Lexeme → Option RefusalKind
over least = outside least greatest_version

pub returns-in_err-take-clause-reads : goal.returns-in_err-take-clause-reads
unfolding header_from the_line
returns-in_err-take-clause-reads c =
    let p = err_from_is_err_and c.from_residual.result c.from_residual.ensures.1 in
    let r = c.in_err-take.field-0.0 in
    rw (p.1, p.2) (fails (the_line is_header_word) (λ line. numeral (over c.args.least)) (Refused r) c.args.tokens.now c.take.new.self
    (fails (one is_header_word) (λ t. pure t.line) (Refused r) c.args.tokens.now c.take.new.self (missed is_header_word no_limit c.args.tokens.now c.take.new.self r (sym c.take.ensures.answer ∙ c.in_err-take.was) c.in_err-take.ensures.again)))

pub returns-in_err-token-clause-reads : goal.returns-in_err-token-clause-reads
unfolding header_from the_line numeral
returns-in_err-token-clause-reads c =
    let p = err_from_is_err_and c.from_residual-in_err-token.result c.from_residual-in_err-token.ensures.1 in
    let r = c.in_err-token.field-0.0 in
    let word = on_made (one is_header_word) (λ t. t.line) c.args.tokens.now c.take.new.self (lexeme_of c.args.tokens.now.source c.in_ok-take.field-0)
    (took is_header_word no_limit c.args.tokens.now c.take.new.self c.in_ok-take.field-0 (sym c.take.ensures.answer ∙ c.in_ok-take.was) c.in_ok-take.ensures.moves c.in_ok-take.ensures.spells refl) in
    rw (p.1, p.2) (on (λ (n : ℕ). n) (the_line is_header_word) (λ line. numeral (over c.args.least)) c.args.tokens.now c.take.new.self c.take_kind.new.self c.in_ok-take.field-0.line (Err (Refused r)) word
    (fails (one_within is_number (over c.args.least)) (λ t. pure (lexeme_value t)) (Refused r) c.take.new.self c.take_kind.new.self
    (missed is_number (over c.args.least) c.take.new.self c.take_kind.new.self r (sym c.take_kind.ensures.answer ∙ c.in_err-token.was) c.in_err-token.ensures.again)))

pub returns-then-version-from-clause-reads : goal.returns-then-version-from-clause-reads
unfolding header_from the_line numeral
returns-then-version-from-clause-reads c =
    let version = c.in_ok-token.token in
    let r : Refusal = record { line = version.line; kind = BadRange } in
    let word = on_made (one is_header_word) (λ t. t.line) c.args.tokens.now c.take.new.self (lexeme_of c.args.tokens.now.source c.in_ok-take.field-0)
    (took is_header_word no_limit c.args.tokens.now c.take.new.self c.in_ok-take.field-0 (sym c.take.ensures.answer ∙ c.in_ok-take.was) c.in_ok-take.ensures.moves c.in_ok-take.ensures.spells refl) in
    let same = ap (λ (v : Cursor). v.source) c.in_ok-token.ensures.moves in
    let v : c.number-version.result ≡ lexeme_value (lexeme_of c.take.new.self.source version) = c.number-version.ensures.value ∙ ap (λ (source : List ℕ). number_value (slice source version)) same in
    on (λ (n : ℕ). n) (the_line is_header_word) (λ line. numeral (over c.args.least)) c.args.tokens.now c.take.new.self c.take_kind.new.self c.in_ok-take.field-0.line (Err (Refused r)) word
    (fails (one_within is_number (over c.args.least)) (λ t. pure (lexeme_value t)) (Refused r) c.take.new.self c.take_kind.new.self
    (goes_past is_number (over c.args.least) c.take.new.self c.take_kind.new.self version BadRange (sym c.take_kind.ensures.answer ∙ c.in_ok-token.was) c.in_ok-token.ensures.moves c.in_ok-token.ensures.spells
    (outlying c.args.least greatest_version (lexeme_of c.take.new.self.source version) (rw (← v, ← c.from.ensures) c.then-version-from.either))))

pub returns-clause-reads : goal.returns-clause-reads
unfolding header_from the_line numeral
returns-clause-reads c =
    let version = c.in_ok-token.token in
    let word = on_made (one is_header_word) (λ t. t.line) c.args.tokens.now c.take.new.self (lexeme_of c.args.tokens.now.source c.in_ok-take.field-0)
    (took is_header_word no_limit c.args.tokens.now c.take.new.self c.in_ok-take.field-0 (sym c.take.ensures.answer ∙ c.in_ok-take.was) c.in_ok-take.ensures.moves c.in_ok-take.ensures.spells refl) in
    let same = ap (λ (v : Cursor). v.source) c.in_ok-token.ensures.moves in
    let v : c.number-version.result ≡ lexeme_value (lexeme_of c.take.new.self.source version) = c.number-version.ensures.value ∙ ap (λ (source : List ℕ). number_value (slice source version)) same in
    let read = on_made (one_within is_number (over c.args.least)) lexeme_value c.take.new.self c.take_kind.new.self (lexeme_of c.take.new.self.source version)
    (took is_number (over c.args.least) c.take.new.self c.take_kind.new.self version (sym c.take_kind.ensures.answer ∙ c.in_ok-token.was) c.in_ok-token.ensures.moves c.in_ok-token.ensures.spells (inside c.args.least greatest_version (lexeme_of c.take.new.self.source version) (rw (← v, ← c.from.ensures) c.if-version-from.false) (rw (← v) c.if-version-gt-GREATEST_VERSION.false))) in
    on (λ (n : ℕ). n) (the_line is_header_word) (λ line. numeral (over c.args.least)) c.args.tokens.now c.take.new.self c.take_kind.new.self c.in_ok-take.field-0.line (Ok c.number-version.result) word
    (subst (λ (n : ℕ). Reached (numeral (over c.args.least)) c.take.new.self n c.take_kind.new.self) (sym v) read)
