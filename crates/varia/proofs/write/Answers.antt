use Rattle.varia.specs.Box.{request}
use Rattle.varia.proofs.Calls.{asked_with}
use Rattle.varia.proofs.write.Goals as goal

pub returns : goal.returns
returns c =
    let s = c.args in
    asked_with s.desk s.clock s.room.now c.«open».result _
    c.asked.result (request s.filters 5 s.register s.wait) _ s.value
    c.asked.ensures c.store.ensures c.«open».ensures
