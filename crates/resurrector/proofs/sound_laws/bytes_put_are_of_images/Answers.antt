use Rattle.resurrector.proofs.SoundFlights.{flight_room, put_same}
use Rattle.resurrector.proofs.sound_laws.bytes_put_are_of_images.Goals as goal

pub returns-clause-put : goal.returns-clause-put
returns-clause-put c = λ i steps trap sound tty low. put_same i steps trap sound tty low

pub returns-clause-room : goal.returns-clause-room
returns-clause-room c = λ i steps trap sound tty low device same wide. flight_room i steps trap sound tty low device same wide
