use Rattle.std.proofs.Common.{◌≡◌, ◌<◌, ◌++◌, ◌∷◌, [], List, map, ap, ℕ, subst, refl, arith}
use Rattle.std.proofs.lemmas.Result.{err_from_is_err_and}
use Rattle.std.proofs.lemmas.List.{map_push}
use Rattle.text_tokens.specs.Reading.{repeated, less}
use Rattle.text_tokens.specs.Lawful.{always}
use Rattle.text_tokens.proofs.LoopLemmas.{StillReads, loop_begins, loop_goes_on, loop_is_over, loop_fails, less_is}
use Rattle.journal_text.specs.Journals.{is_cell}
use Rattle.journal_text.specs.Readers.{pair_in, all_pairs}
use Rattle.journal_text.specs.Views as view
use Rattle.journal_text.specs.declared.journal.WrittenPair.{WrittenPair}
use Rattle.journal_text.proofs.JournalLaws.{PairIn, no_pair, pair_elements}
use Rattle.journal_text.proofs.journal.read_pairs.Goals as goal

pub loop-pair-init : goal.loop-pair-init
unfolding all_pairs
loop-pair-init c = record { reads = loop_begins (all_pairs c.args.old c.args.vars) c.args.tokens.now (map view.pair c.clear.new.self.items) (ap (λ (ps : List WrittenPair). map view.pair ps) c.clear.ensures); room = rw c.clear.ensures refl }

pub returns-in_err-pair : goal.returns-in_err-pair
returns-in_err-pair c =
    let p = err_from_is_err_and c.from_residual.result c.from_residual.ensures.1 in
    let old = c.args.old in let vars = c.args.vars in
    rw (p.1, p.2) (loop_fails (PairIn old vars) (pair_in old vars) (λ room n. less room) is_cell always (no_pair old vars) (pair_elements old vars) (all_pairs old vars) c.args.tokens.now (map view.pair c.loop-pair.found.items) c.loop-pair.room c.loop-pair.tokens c.loop-pair.invariant.reads
    c.in_err-pair.field-0.0 c.more_pair.new.tokens c.in_err-pair.ensures.reads)

pub loop-pair-preserved : goal.loop-pair-preserved
loop-pair-preserved c =
    let old = c.args.old in let vars = c.args.vars in
    let next = rw c.in-Some.is at c.in_ok-pair.ensures.reads in
    let pushed : map view.pair c.push.new.self.items ≡ map view.pair c.loop-pair.found.items ++ view.pair c.in-Some.pair ∷ [] = rw c.push.ensures.items (map_push view.pair c.loop-pair.found.items c.in-Some.pair) in
    let more = loop_goes_on (PairIn old vars) (pair_in old vars) (λ room n. less room) is_cell always (no_pair old vars) (pair_elements old vars) (all_pairs old vars) c.args.tokens.now (map view.pair c.loop-pair.found.items) c.loop-pair.room c.loop-pair.tokens c.loop-pair.invariant.reads
    (view.pair c.in-Some.pair) c.more_pair.new.tokens next (map view.pair c.push.new.self.items) pushed in
    let some : 0 < c.loop-pair.room = rw c.in-Some.is at c.in_ok-pair.ensures.room in
    record {
      reads = subst (λ (room : ℕ). StillReads (all_pairs old vars) c.args.tokens.now (map view.pair c.push.new.self.items) (repeated is_cell (pair_in old vars) (λ room n. less room) room) c.more_pair.new.tokens) (less_is c.loop-pair.room) more;
      room = omega (arith, some, c.push.ensures.len, c.loop-pair.invariant.room);
    }

pub returns : goal.returns
returns c =
    let old = c.args.old in let vars = c.args.vars in
    loop_is_over (PairIn old vars) (pair_in old vars) (λ room n. less room) is_cell always (no_pair old vars) (pair_elements old vars) (all_pairs old vars) c.args.tokens.now (map view.pair c.loop-pair.found.items) c.loop-pair.room c.loop-pair.tokens c.loop-pair.invariant.reads
    c.more_pair.new.tokens (rw c.in_default.is at c.in_ok-pair.ensures.reads)
