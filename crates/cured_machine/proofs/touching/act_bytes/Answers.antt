use Rattle.cured_machine.proofs.touching.act_bytes.Goals as goal

pub returns-in-Load1 : goal.returns-in-Load1
returns-in-Load1 c = rw c.in-Load1.is c.load.ensures

pub returns-in-Load2 : goal.returns-in-Load2
returns-in-Load2 c = rw c.in-Load2.is c.load-in-Load2.ensures

pub returns-in-Load4 : goal.returns-in-Load4
returns-in-Load4 c = rw c.in-Load4.is c.load-in-Load4.ensures

pub returns-in-Load8 : goal.returns-in-Load8
returns-in-Load8 c = rw c.in-Load8.is c.load-in-Load8.ensures

pub returns-in-Store1 : goal.returns-in-Store1
returns-in-Store1 c = rw c.in-Store1.is c.store.ensures

pub returns-in-Store2 : goal.returns-in-Store2
returns-in-Store2 c = rw c.in-Store2.is c.store-in-Store2.ensures

pub returns-in-Store4 : goal.returns-in-Store4
returns-in-Store4 c = rw c.in-Store4.is c.store-in-Store4.ensures

pub returns-in-Store8 : goal.returns-in-Store8
returns-in-Store8 c = rw c.in-Store8.is c.store-in-Store8.ensures
