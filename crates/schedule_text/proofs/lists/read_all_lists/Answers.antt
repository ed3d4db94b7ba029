use Rattle.std.proofs.Common.{◌≡◌, ◌<◌, ◌+◌, ◌++◌, ◌∷◌, [], ◌∙◌, ℕ, suc, List, length, Ok, sym, ap, subst, arith}
use Rattle.std.specs.List.{All}
use Rattle.std.proofs.lemmas.List.Elements.{All-push}
use Rattle.std.proofs.lemmas.Result.{err_from_is_err_and}
use Rattle.std.proofs.lemmas.List.{length-append}
use Rattle.text_tokens.specs.Reading.{pure, repeated}
use Rattle.text_tokens.proofs.StepsLemmas.{fails, on_made}
use Rattle.text_tokens.proofs.LoopLemmas.{StillReads, loop_begins, loop_goes_on, loop_is_over, loop_fails}
use Rattle.claim_core.specs.Turns.{CallerLists, AreFew}
use Rattle.shape_text.specs.Parts.{is_end, one_more}
use Rattle.schedule_text.specs.Lists.{is_list, lists_of, IsCallerList}
use Rattle.schedule_text.specs.Readers.{a_list, lists_from, all_lists}
use Rattle.schedule_text.proofs.ListLaws.{no_number, list_elements}
use Rattle.schedule_text.proofs.lists.read_all_lists.Goals as goal

pub loop-lists-init : goal.loop-lists-init
unfolding lists_from
loop-lists-init c =
    let none : c.in-Ok.lists.ids ≡ [] = ap (λ (l : CallerLists). l.ids) c.in-Ok.ensures in
    let size = ap length none in
    record {
      reads = loop_begins (lists_from c.args.bots c.args.turns 0) c.args.tokens.now c.in-Ok.lists.ids none;
      turns = ap (λ (l : CallerLists). l.turns) c.in-Ok.ensures;
      same = size;
      few = omega arith;
      there = λ k d lt. absurd (omega (arith, size));
    }

pub returns-in_err-ids-clause-reads : goal.returns-in_err-ids-clause-reads
unfolding all_lists
returns-in_err-ids-clause-reads c =
    let p = err_from_is_err_and c.from_residual.result c.from_residual.ensures.1 in
    let bots = c.args.bots in
    let turns = c.args.turns in
    rw (p.1, p.2) (fails (lists_from bots turns 0) (λ ids. pure (lists_of turns ids)) c.in_err-ids.field-0.0 c.args.tokens.now c.more_list.new.tokens
    (loop_fails (IsCallerList bots turns) (a_list bots turns) one_more is_list no_number is_end (list_elements bots turns) (lists_from bots turns 0) c.args.tokens.now c.loop-lists.lists.ids c.loop-lists.before c.loop-lists.tokens c.loop-lists.invariant.reads
    c.in_err-ids.field-0.0 c.more_list.new.tokens c.in_err-ids.ensures.reads))

pub loop-lists-preserved : goal.loop-lists-preserved
loop-lists-preserved c =
    let bots = c.args.bots in
    let turns = c.args.turns in
    let next = rw c.in-Some.is at c.in_ok-ids.ensures.reads in
    let room : AreFew (c.loop-lists.before + 1) turns = rw c.in-Some.is at c.in_ok-ids.ensures.few in
    let there : All (λ id. id < bots) c.in-Some.ids.items = rw c.in-Some.is at c.in_ok-ids.ensures.there in
    let added : c.add.new.self.ids ≡ c.loop-lists.lists.ids ++ c.in-Some.ids.items ∷ [] = ap (λ (l : CallerLists). l.ids) c.in-Ok-add.ensures.ok ∙ ap (λ (ids : List ℕ). c.loop-lists.lists.ids ++ ids ∷ []) c.as_slice.ensures.value in
    let more = loop_goes_on (IsCallerList bots turns) (a_list bots turns) one_more is_list no_number is_end (list_elements bots turns) (lists_from bots turns 0) c.args.tokens.now c.loop-lists.lists.ids c.loop-lists.before c.loop-lists.tokens c.loop-lists.invariant.reads
    c.in-Some.ids.items c.more_list.new.tokens next c.add.new.self.ids added in
    let one : suc c.loop-lists.before ≡ c.loop-lists.before + 1 = omega arith in
    let size = ap length added ∙ length-append c.loop-lists.lists.ids (c.in-Some.ids.items ∷ []) in
    record {
      reads = subst (λ (n : ℕ). StillReads (lists_from bots turns 0) c.args.tokens.now c.add.new.self.ids (repeated is_list (a_list bots turns) one_more n) c.more_list.new.tokens) one more;
      turns = ap (λ (l : CallerLists). l.turns) c.in-Ok-add.ensures.ok ∙ c.loop-lists.invariant.turns;
      same = omega (arith, size, c.loop-lists.invariant.same);
      few = room.at_most_16;
      there = subst (λ (ids : List (List ℕ)). All (All (λ id. id < bots)) ids) (sym added) (All-push (All (λ (id : ℕ). id < bots)) c.loop-lists.lists.ids c.in-Some.ids.items c.loop-lists.invariant.there there);
    }

pub returns-clause-reads : goal.returns-clause-reads
unfolding all_lists
returns-clause-reads c =
    let bots = c.args.bots in
    let turns = c.args.turns in
    let m = on_made (lists_from bots turns 0) (λ ids. lists_of turns ids) c.args.tokens.now c.more_list.new.tokens c.loop-lists.lists.ids
    (loop_is_over (IsCallerList bots turns) (a_list bots turns) one_more is_list no_number is_end (list_elements bots turns) (lists_from bots turns 0) c.args.tokens.now c.loop-lists.lists.ids c.loop-lists.before c.loop-lists.tokens c.loop-lists.invariant.reads
    c.more_list.new.tokens (rw c.in_default-2.is at c.in_ok-ids.ensures.reads)) in
    (m.0 ∙ ap (λ (n : ℕ). Ok (lists_of n c.loop-lists.lists.ids, c.more_list.new.tokens.ahead)) (sym c.loop-lists.invariant.turns), m.1)
