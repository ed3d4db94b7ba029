use Rattle.std.proofs.Common.{List, Ok, Err, ◌∙◌}
use Rattle.std.proofs.lemmas.Result.{err_from_is_err_and}
use Rattle.text_tokens.specs.declared.refusal.ReadRefusal.{ReadRefusal}
use Rattle.text_tokens.specs.declared.refusal.ReadRefusal.TheVariants.{Refused, NoMemory}
use Rattle.text_tokens.specs.Text.{Lexeme}
use Rattle.text_tokens.specs.Cursor.{Cursor}
use Rattle.text_tokens.specs.Grammar.{Lang, Symbol}
use Rattle.text_tokens.specs.Steps.{TellsOf, Settles}
use Rattle.text_tokens.proofs.ExactReaders.{tells_of, reads_of}
use Rattle.action_tree.specs.Programs.{IsProgram}
use Rattle.action_tree.specs.ProgramReaders.{a_program}
use Rattle.action_tree.proofs.ProgramLaws.{exact_program}
use Rattle.action_tree.proofs.ProductionsLemmas.{texts_give_writable}
use Rattle.action_parser.specs.PartsOf.{parts_of}
use Rattle.action_parser.proofs.program.parse_program.Goals as goal

-- what a refusal owes does not depend on what was to be made
module _ {A B C : Type 0} (P : Lang B) (f : A → B) (g : C → B) (old new : Cursor) where
  tells_as : (k : ReadRefusal) → TellsOf {A = A} P f old (Err k) new → TellsOf {A = C} P g old (Err k) new
  tells_as NoMemory t = t
  tells_as (Refused r) t = t

  settles_as : (xs : List Symbol) (b : B) (rest : List Lexeme) (k : ReadRefusal) → Settles {A = A} f xs b rest (Err k) new → Settles {A = C} g xs b rest (Err k) new
  settles_as xs b rest NoMemory s = s
  settles_as xs b rest (Refused r) s = s

pub returns-in_err-parts-clause-tells : goal.returns-in_err-parts-clause-tells
returns-in_err-parts-clause-tells c =
    let p = err_from_is_err_and c.from_residual.result c.from_residual.ensures.1 in
    let now = c.args.tokens.now in
    let new = c.read_parts.new.tokens in
    let e = c.in_err-parts.field-0.0 in
    rw (p.1, p.2) (tells_as IsProgram parts_of (λ q. q) now new e (tells_of IsProgram parts_of a_program exact_program now (Err e) new c.in_err-parts.ensures))

pub returns-in_err-parts-clause-reads : goal.returns-in_err-parts-clause-reads
returns-in_err-parts-clause-reads c =
    let p = err_from_is_err_and c.from_residual.result c.from_residual.ensures.1 in
    let now = c.args.tokens.now in
    let new = c.read_parts.new.tokens in
    let e = c.in_err-parts.field-0.0 in
    rw (p.1, p.2) (λ xs b rest is stops same. settles_as IsProgram parts_of (λ q. q) now new xs b rest e (reads_of IsProgram parts_of a_program exact_program now (Err e) new c.in_err-parts.ensures xs b rest is stops same))

pub make-requires : goal.make-requires
make-requires c =
    let now = c.args.tokens.now in
    let new = c.read_parts.new.tokens in
    let parts = c.in_ok-parts.parts in
    texts_give_writable now.ahead new.ahead (parts_of parts) c.are_cut.ensures (tells_of IsProgram parts_of a_program exact_program now (Ok parts) new c.in_ok-parts.ensures).0

pub returns-clause-tells : goal.returns-clause-tells
returns-clause-tells c =
    let now = c.args.tokens.now in
    let parts = c.in_ok-parts.parts in
    rw c.make.ensures (tells_of IsProgram parts_of a_program exact_program now (Ok parts) c.read_parts.new.tokens c.in_ok-parts.ensures)

pub returns-clause-reads : goal.returns-clause-reads
returns-clause-reads c =
    let now = c.args.tokens.now in
    let parts = c.in_ok-parts.parts in
    λ xs b rest is stops same.
    let r = reads_of IsProgram parts_of a_program exact_program now (Ok parts) c.read_parts.new.tokens c.in_ok-parts.ensures xs b rest is stops same in
    (r.0, c.make.ensures ∙ r.1, r.2)
