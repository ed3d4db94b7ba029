use Rattle.std.proofs.Common.{◌≡◌, false, List, [], ◌∷◌, ◌++◌, length, map, take, ap, refl, sym, ◌∙◌, arith}
use Rattle.std.proofs.lemmas.List.{length-map, length-take-le}
use Rattle.std.proofs.lemmas.Option.{slice_get-get_or}
use Rattle.journal_text.specs.Journals.{WrittenChange, with_changes}
use Rattle.journal_text.specs.Views as view
use Rattle.journal_text.proofs.KnownBots.{there, all_there, all_there_next, pairs_next, unknown, gave_some, gave_none}
use Rattle.journal_text.proofs.journal.put_known.Goals as goal

pub loop-pair-init : goal.loop-pair-init
loop-pair-init g c = record {
  made = λ w e none. e ∙ ap (λ ts. g.E.Form.made (with_changes w ts)) none;
  known = refl;
}

pub returns-in_default-clause-known : goal.returns-in_default-clause-known
returns-in_default-clause-known g c =
    let none : there c.args.bots _ ≡ false = gave_none _ _ c.known_change.result c.known_change.ensures c.in_default.is in
    let unknown : all_there c.args.bots c.args.pairs.now ≡ false = unknown c.args.bots c.args.pairs.now c.loop-pair.pair-index _ (slice_get-get_or _ _ _ c.loop-pair-test.true) none in
    sym unknown

pub put-requires-clause-room : goal.put-requires-clause-room
put-requires-clause-room g c =
    let ps = c.args.pairs.now in let i = c.loop-pair.pair-index in
    let begun = c.requires.begun in
    let changes = map view.pair (take i ps) in
    let taken = length-take-le i ps (omega arith) in
    let same : length changes ≡ i = omega (arith, length-map (take i ps) view.pair, taken) in (
      with_changes begun.0 changes,
      c.loop-pair.invariant.made begun.0 begun.1 begun.2,
      omega (arith, same, c.requires.few),
    )

pub loop-pair-preserved : goal.loop-pair-preserved
loop-pair-preserved g c =
    let ps = c.args.pairs.now in let i = c.loop-pair.pair-index in
    let at = slice_get-get_or ps i _ c.loop-pair-test.true in
    let gave = gave_some _ _ _ c.known_change.result c.known_change.ensures c.in-Some.is in
    let changes = map view.pair (take i ps) in
    record {
      made = λ w e none.
          c.put.ensures (with_changes w changes) (c.loop-pair.invariant.made w e none)
          ∙ ap (λ (ts : List WrittenChange). g.E.Form.made (with_changes w ts))
          (ap (λ (t : WrittenChange). changes ++ t ∷ []) (sym gave.1) ∙ sym (pairs_next ps i _ at));
      known = all_there_next c.args.bots ps i _ at c.loop-pair.invariant.known gave.0;
    }
