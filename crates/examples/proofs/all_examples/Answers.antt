use Rattle.std.proofs.Common.{refl}
use Rattle.business.specs.TargetDays.{closed, next_business}
use Rattle.calendar.specs.Easter.{easter_sunday}
use Rattle.calendar.specs.Gregorian.{century, day_at, day_of_year, existing, month_at, months_of, year_at}
use Rattle.calendar.specs.Text.{date_of}
use Rattle.examples.proofs.Prices.{prices}
use Rattle.examples.proofs.all_examples.Goals as goal
use Rattle.texts.specs.ThreeNumbers.{three_of}
use Rattle.timestamps.specs.Times.{clock_of, timestamp_of}

pub returns : goal.returns
unfolding timestamp_of clock_of date_of three_of existing century months_of year_at day_of_year month_at day_at easter_sunday closed next_business
returns c = record {
  amounts = record { a_hundredth = refl; above_a_hundredth = refl; below_zero = refl; across_zero = refl; from_zero = refl; cut_not_rounded = refl; cut_toward_zero = refl; padded_hundred = refl };
  calendar = record { an_hour_apart = refl; a_second_more = refl; over_midnight = refl; off_exchange = refl; over_easter = refl };
  prices = prices;
}
