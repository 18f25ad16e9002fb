use Rattle.dead_reader.specs.Left.{records_left}
use Rattle.resurrector.proofs.InFlight.{room_stays}
use Rattle.resurrector.proofs.flights.put_all_in_flight.Goals as goal

pub put_in_flight-requires-2-clause-room : goal.put_in_flight-requires-2-clause-room
put_in_flight-requires-2-clause-room g c =
    room_stays (records_left (g.M.DeadMemory.dead c.args.dead.now) (g.M.WordSource.words c.args.dead.now)) c.args.own.now.lent.now c.put_in_flight.new.own.lent.now
    c.put_in_flight.ensures.only c.requires.room1
