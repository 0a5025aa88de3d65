use Rattle.bc_points_laws.proofs.RegionNumbers.{number_of_region, region_of_its_number}
use Rattle.bc_points_laws.proofs.laws.region_numbers_are_taken_back.Goals as goal

pub returns-clause-numbers : goal.returns-clause-numbers
returns-clause-numbers c = number_of_region

pub returns-clause-regions : goal.returns-clause-regions
returns-clause-regions c = region_of_its_number
