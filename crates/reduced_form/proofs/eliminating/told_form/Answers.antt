use Rattle.list_laws.proofs.Kit.{◌<◌, ◌∙◌, sym, subst, length, map, length-map}
use Rattle.sparse_rows.specs.KeptRows.{kepts}
use Rattle.reduced_form.proofs.Numbering.{length-kepts}
use Rattle.reduced_form.proofs.Sums.{pivot_within}
use Rattle.reduced_form.proofs.ToldLaws.{made_ranges, told_made, told_whole}
use Rattle.reduced_form.proofs.eliminating.told_form.Goals as goal

pub tellers_of-requires : goal.tellers_of-requires
tellers_of-requires g c = λ i h.
    pivot_within (length c.args.unknowns.now) (kepts c.args.kept.now) c.requires.within i
    (subst (λ m. i < m) (sym (length-kepts c.args.kept.now)) h)

pub told_rows-requires-clause-told : goal.told_rows-requires-clause-told
told_rows-requires-clause-told g c =
    made_ranges (length c.args.unknowns.now) c.args.kept.now c.in_ok-tellers.tellers.items c.deref.result.now
    c.in_ok-numbered.numbered.numbers.items c.in_ok-sums.sums.items c.deref.ensures.value c.in_ok-tellers.ensures
    c.in_ok-numbered.ensures.numbers c.in_ok-sums.ensures c.requires.within

pub invariant_of-result : goal.invariant_of-result
invariant_of-result g c =
    told_whole c.requires.system.1
    (told_made c.args.kept.now c.in_ok-tellers.tellers.items c.deref.result.now c.in_ok-numbered.numbered.numbers.items
    c.in_ok-sums.sums.items c.in_ok-numbered.numbered.free.items (map (λ row. row.items) c.in_ok-rows.rows.items)
    c.deref.ensures.value c.in_ok-tellers.ensures c.in_ok-numbered.ensures.numbers c.in_ok-sums.ensures
    c.in_ok-numbered.ensures.free c.in_ok-rows.ensures.rows)
    c.requires.reduced c.requires.within (length-map c.in_ok-rows.rows.items (λ row. row.items) ∙ c.in_ok-rows.ensures.len)

pub returns : goal.returns
returns g c =
    told_made c.args.kept.now c.in_ok-tellers.tellers.items c.deref.result.now c.in_ok-numbered.numbered.numbers.items
    c.in_ok-sums.sums.items c.in_ok-numbered.numbered.free.items (map (λ row. row.items) c.in_ok-rows.rows.items)
    c.deref.ensures.value c.in_ok-tellers.ensures c.in_ok-numbered.ensures.numbers c.in_ok-sums.ensures
    c.in_ok-numbered.ensures.free c.in_ok-rows.ensures.rows
