use Rattle.std.proofs.Common.{Ok, ap, sym, subst, ◌∙◌}
use Rattle.text_tokens.specs.Reading.{Reader, pure, one, optional}
use Rattle.text_tokens.specs.Steps.{Gives}
use Rattle.text_tokens.proofs.StepsLemmas.{is_first, is_second, gives_as}
use Rattle.text_tokens.proofs.Rows.{all_left, past_part, gives_left}
use Rattle.action_tree.specs.Trees as tree
use Rattle.action_tree.specs.Views.{name_of, term_of}
use Rattle.action_tree.specs.declared.role.Role.TheVariants as role
use Rattle.action_tree.specs.Roles.{is_a, as_name}
use Rattle.action_tree.specs.ExpressionReaders as spec
use Rattle.action_parser.specs.Readings.{own_or_member}
use Rattle.action_parser.proofs.Tokens.{taken}
use Rattle.action_tree.proofs.Viewed.{term_own, port_name}
use Rattle.action_parser.proofs.words.own_or_member.Goals as goal

-- behind the name
abbrev behind_the_name : tree.Name → Reader tree.Term
behind_the_name v = optional (is_a role.DotSign) (tree.own v) (spec.member (tree.bound v))

pub returns-then-is_next : goal.returns-then-is_next
returns-then-is_next c =
    let now = c.args.tokens.now in
    let mid = c.name.new.tokens in
    let w = c.in_ok-name.name in
    let x = taken (one (is_a role.AName)) as_name now mid (name_of w) c.in_ok-name.ensures in
    let l1 = past_part (one (is_a role.AName)) _ (all_left own_or_member now) x.part mid x.reads in
    let port = port_name w ∙ ap tree.bound (sym x.is) in
    gives_left term_of c.member.result c.member.new.tokens l1
    (gives_as term_of (behind_the_name (as_name x.part)) (spec.member (tree.bound (as_name x.part))) mid c.member.new.tokens c.member.result
    (is_first (is_a role.DotSign) (spec.member (tree.bound (as_name x.part))) (pure (tree.own (as_name x.part))) mid.last mid.ahead (sym c.is_next.ensures ∙ c.if-is_next.true))
    (subst (λ (p : tree.PortExpr). Gives term_of (spec.member p) mid c.member.result c.member.new.tokens) port c.member.ensures))

pub returns : goal.returns
returns c =
    let now = c.args.tokens.now in
    let mid = c.name.new.tokens in
    let w = c.in_ok-name.name in
    let x = taken (one (is_a role.AName)) as_name now mid (name_of w) c.in_ok-name.ensures in
    let l1 = past_part (one (is_a role.AName)) _ (all_left own_or_member now) x.part mid x.reads in (
      l1.reads ∙ is_second (is_a role.DotSign) (spec.member (tree.bound (as_name x.part))) (pure (tree.own (as_name x.part))) mid.last mid.ahead (sym c.is_next.ensures ∙ c.if-is_next.false)
          ∙ ap (λ (t : tree.Term). Ok (t, mid.ahead)) (ap tree.own x.is ∙ sym (term_own w)),
      l1.stays,
    )
