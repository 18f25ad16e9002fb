use Rattle.std.proofs.Common.{rules, ◌≡◌, sym, subst, arith}
use Rattle.dead_reader.specs.Left.{records_left}
use Rattle.ow_base.specs.Sv32.{WordMap}
use Rattle.ow_plant.specs.Owning.{own_words}
use Rattle.ow_plant.specs.State.{Device}
use Rattle.record_layouts.specs.Reading.{records_of}
use Rattle.record_layouts.specs.Terminals.{TerminalDecodes}
use Rattle.resurrector.specs.Flights.{HasFlightRoom}
use Rattle.resurrector.proofs.Whole.{terminals_decode}
use Rattle.resurrector.proofs.plants.resurrect_lent.Goals as goal

pub put_all_in_flight-requires-clause-room0 : goal.put_all_in_flight-requires-clause-room0
put_all_in_flight-requires-clause-room0 g c =
    let same : c.resurrect_into.new.own.lent.now.tty0 ≡ c.args.own.now.lent.now.tty0 = search rules in
    subst (λ (d : Device). HasFlightRoom (records_left (g.M.DeadMemory.dead c.args.dead.now) (g.M.WordSource.words c.args.dead.now)) 0 d) (sym same) c.requires.room0

pub put_all_in_flight-requires-clause-room1 : goal.put_all_in_flight-requires-clause-room1
put_all_in_flight-requires-clause-room1 g c =
    let same : c.resurrect_into.new.own.lent.now.tty1 ≡ c.args.own.now.lent.now.tty1 = search rules in
    subst (λ (d : Device). HasFlightRoom (records_left (g.M.DeadMemory.dead c.args.dead.now) (g.M.WordSource.words c.args.dead.now)) 1 d) (sym same) c.requires.room1

pub paint_terminals-requires-clause-decodes0 : goal.paint_terminals-requires-clause-decodes0
paint_terminals-requires-clause-decodes0 g c =
    subst (λ (ws : WordMap). TerminalDecodes (records_of c.own_map-map.result ws) 0) (sym c.put_all_in_flight.ensures.words)
    (terminals_decode (g.M.DeadMemory.dead c.args.dead.now) (g.M.WordSource.words c.args.dead.now) (own_words c.resurrect_into.new.own) c.own_map-map.result c.in_ok-revival.ensures.read 0 (omega arith))

pub paint_terminals-requires-clause-decodes1 : goal.paint_terminals-requires-clause-decodes1
paint_terminals-requires-clause-decodes1 g c =
    subst (λ (ws : WordMap). TerminalDecodes (records_of c.own_map-map.result ws) 1) (sym c.put_all_in_flight.ensures.words)
    (terminals_decode (g.M.DeadMemory.dead c.args.dead.now) (g.M.WordSource.words c.args.dead.now) (own_words c.resurrect_into.new.own) c.own_map-map.result c.in_ok-revival.ensures.read 1 (omega arith))
