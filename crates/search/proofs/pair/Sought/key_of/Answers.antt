-- There are eight classes, and a rank is a byte.
use Rattle.std.proofs.Common.{◌<◌, get_or, arith}
use Rattle.search.proofs.EndLaws.{class_small}
use Rattle.search.proofs.pair.Sought.key_of.Goals as goal

pub bounds-self-class : goal.bounds-self-class
bounds-self-class c =
    let a = c.args in
    let s = a.self.now in
    rw c.class_of-class.ensures (class_small a.first a.y (get_or s.target.now a.y 0) (get_or s.target.now s.protected.near 0) c.has-protects.result)

pub overflow_add-result : goal.overflow_add-result
overflow_add-result c =
    let a = c.args in
    let s = a.self.now in
    let small : c.class_of-class.result < 8 = rw c.class_of-class.ensures (class_small a.first a.y (get_or s.target.now a.y 0) (get_or s.target.now s.protected.near 0) c.has-protects.result) in
    let key = s.keyed c.class_of-class.result small in
    omega (arith, key.0, key.1)
