use Rattle.std.proofs.Common.{◌≡◌, ℕ, List, Ok, ap, sym, ◌∙◌}
use Rattle.text_tokens.specs.Reading.{Reader, ◌>>=◌, pure}
use Rattle.tri_lattice.specs.declared.node.Node.{Node}
use Rattle.amoebot_state.specs.declared.bot.Bot.{Bot}
use Rattle.amoebot_state.specs.declared.bot.Chir.{Chir}
use Rattle.shape_text.specs.Parts.{memory, a_bot_of}
use Rattle.shape_text.specs.PartReaders.{up_to, a_chirality, a_node, values, a_bot}
use Rattle.text_tokens.proofs.Rows.{all_left, past_part}
use Rattle.shape_text.proofs.parts.read_bot.Goals as goal

abbrev bot_with : Node → Node → ℕ → Chir → List ℕ → Bot
bot_with head tail rot chir mem = record { head = head; tail = tail; rot = rot; chir = chir; mem = mem }

-- what is left behind each part
abbrev behind_chirality : ℕ → Node → Node → ℕ → Chir → Reader Bot
behind_chirality vars head tail rot chir = values vars >>= λ vs. pure (a_bot_of head tail rot chir vs)

abbrev behind_rotation : ℕ → Node → Node → ℕ → Reader Bot
behind_rotation vars head tail rot = a_chirality >>= behind_chirality vars head tail rot

abbrev behind_tail : ℕ → Node → Node → Reader Bot
behind_tail vars head tail = up_to 5 >>= behind_rotation vars head tail

abbrev behind_head : ℕ → Node → Reader Bot
behind_head vars head = a_node >>= behind_tail vars head

pub returns-clause-reads : goal.returns-clause-reads
unfolding a_bot
returns-clause-reads c =
    let l0 = all_left (a_bot c.args.vars) c.args.tokens.now in
    let head = c.in_ok-head.head in
    let l1 = past_part (a_node) (behind_head c.args.vars) l0 head c.read_node.new.tokens c.in_ok-head.ensures.reads in
    let tail = c.in_ok-tail.tail in
    let l2 = past_part (a_node) (behind_tail c.args.vars head) l1 tail c.read_node-2.new.tokens c.in_ok-tail.ensures.reads in
    let rot = c.in_ok-rot.field-0 in
    let l3 = past_part (up_to 5) (behind_rotation c.args.vars head tail) l2 rot c.read_up_to.new.tokens c.in_ok-rot.ensures.reads in
    let chir = c.in_ok-chir.chir in
    let l4 = past_part (a_chirality) (behind_chirality c.args.vars head tail rot) l3 chir c.read_chirality.new.tokens c.in_ok-chir.ensures.reads in
    let vs = c.in_ok-values.values.items in
    let l5 = past_part (values c.args.vars) (λ vs. pure (a_bot_of head tail rot chir vs)) l4 vs c.read_values.new.tokens c.in_ok-values.ensures.reads in
    let m : c.memory.result ≡ memory vs = c.memory.ensures ∙ ap memory c.as_slice.ensures.value in
    (l5.reads ∙ ap (λ (mem : List ℕ). Ok (bot_with head tail rot chir mem, c.read_values.new.tokens.ahead)) (sym m), l5.stays)
