-- `frame::take_potentials` meets its contract: a 03 of the next node puts its potentials after those counted. Assumes nothing.
use Rattle.std.specs.Prelude.{refl, ℤ}
use Rattle.std.proofs.Common.{rules, arith, length-set}
use Rattle.district.specs.ReaderLaws.{potentials_open}
use Rattle.district.specs.TakenLaws.{grown_one, read_next, indexable_next, potentials_taken}
use Rattle.district.proofs.frame.take_potentials.Goals as goal

pub own_verdict-requires : goal.own_verdict-requires
own_verdict-requires c =
    let l = c.args.lists.now in
    let at = c.args.reader.nodes_read in
    read_next c.args.reader _ c.next_line.ensures (potentials_open c.args.reader _ c.requires.kept c.requires.not_last c.requires.arcs_read c.requires.owed) refl refl refl (length-set {A = ℤ} l.forward.now at _) (length-set {A = ℤ} l.backward.now at _)

pub build_index-requires : goal.build_index-requires
build_index-requires c =
    indexable_next c.args.reader _ _ _ _ _ _ _ _ _ _ c.next_line.ensures (potentials_open c.args.reader _ c.requires.kept c.requires.not_last c.requires.arcs_read c.requires.owed) c.own_verdict.ensures

pub returns-clause-stepped : goal.returns-clause-stepped
returns-clause-stepped c =
    let a = c.args in
    let l = a.lists.now in
    rw c.in-Potentials.is
    (potentials_taken a.reader _ c.in-Potentials.node c.in-Potentials.h c.in-Potentials.k _ _ c.next_line.ensures c.if-node-at.false c.requires.arcs_read c.requires.owed
    (grown_one l.forward.now _ c.in-Potentials.h (search rules) (omega (arith, c.requires.owed, c.requires.kept)))
    (grown_one l.backward.now _ c.in-Potentials.k (search rules) (omega (arith, c.requires.owed, c.requires.kept)))
    c.own_verdict.ensures c.build_index.ensures.built c.requires.kept)
