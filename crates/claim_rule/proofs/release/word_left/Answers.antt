use Rattle.std.proofs.Common.{rules, refl, sym, ap, ◌≡◌, ◌∙◌}
use Rattle.claim_rule.specs.Words.{node_word, word_occ, word_stamp}
use Rattle.claim_rule.proofs.Stamping.{free_made}
use Rattle.claim_rule.proofs.release.word_left.Goals as goal

pub returns-then-eq : goal.returns-then-eq
returns-then-eq c =
    let same : c.args.occ ≡ word_occ c.args.found = search rules in
    (word_stamp c.args.found, free_made c.args.found c.requires.free ∙ ap (λ o. node_word 0 o (word_stamp c.args.found)) (sym same), λ e. refl, λ ne. absurd (ne same))
