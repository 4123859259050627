-- How a reader answers where nothing is wrong with the text.
use Rattle.lsm_frame.specs.declared.next.FrameError.{FrameError}
use Rattle.lsm_frame.specs.declared.next.FrameError.TheVariants as error
use Rattle.lsm_frame.specs.declared.next.Refusal.{Refusal}
use Rattle.lsm_frame.specs.declared.next.Refusal.TheVariants as refusal

abbrev pub refused : Refusal → FrameError
refused refusal.ReadFault = error.ReadFault
refused refusal.NoMemory = error.NoMemory
