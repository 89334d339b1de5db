use Rattle.std.proofs.Common.{◌≡◌, arith, length, rules}
use Rattle.saying.proofs.Pieces.{stored_fits, text_added, text_kept}
use Rattle.saying.proofs.said.Said.text.Goals as goal

pub overflow_add-result : goal.overflow_add-result
overflow_add-result c =
    let a = c.args in
    let room : length a.self.bytes ≡ 4096 = search rules in
    let fits = stored_fits a.self.bytes a.self.len a.s.now _ c.put.ensures c.in-Ok.is in
    record { fits = omega arith }

pub returns-in-Ok : goal.returns-in-Ok
returns-in-Ok c =
    let a = c.args in
    text_added a.self.bytes a.self.len a.s.now _ c.put.ensures c.in-Ok.is

pub returns-in-Err : goal.returns-in-Err
returns-in-Err c =
    let a = c.args in
    text_kept a.self.bytes a.self.len a.s.now _ c.put.ensures c.in-Err.is
